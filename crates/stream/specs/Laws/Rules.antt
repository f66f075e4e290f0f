-- Lines and rules over bytes that are still to come. A line's rest is skipped byte by byte; `parts (cut s)` begins with a rule where s
-- begins with `rule` TAB, and otherwise with the rest of a line.
use Rattle.std.specs.Prelude.{◌≡◌, refl, true, false, cond, [], ◌∷◌, ◌++◌, ℕ, zero, suc, ◌≤◌, ◌<◌, eqb, ltb, take}
use Rattle.std.proofs.Common.{sym, ◌∙◌, ap, arith, eqb-true, ne_eqb}
use Rattle.std.proofs.lemmas.Bool.{eqb-false}
use Rattle.definitions.specs.Bytes.{Bytes, TAB, LF, begins}
use Rattle.definitions.specs.Program.{Parts, cut, parts}
use Rattle.definitions.proofs.Laws.Bools.{by_cases}
use Rattle.definitions.specs.Laws.Pieces.{Clear}
use Rattle.stream.specs.Machine.{rule_tab, matches}

-- the first line with its LF, and what follows it
unfoldable pub line_of : Bytes → Bytes
line_of [] = []
line_of (b ∷ s) = cond (eqb b LF) (LF ∷ []) (b ∷ line_of s)

unfoldable pub after_line : Bytes → Bytes
after_line [] = []
after_line (b ∷ s) = cond (eqb b LF) s (after_line s)

-- bytes before what stands before the first rule
abbrev pub plus : Bytes → Parts → Parts
plus l p = record { before = l ++ p.before; rules = p.rules }

-- in the middle of a line that is no rule line
abbrev pub mid : Bytes → Parts
mid s = plus (line_of s) (parts (cut (after_line s)))

-- where a line has begun with `matched` bytes of `rule` TAB, or has gone another way
abbrev pub line_at : ℕ → Bytes → Parts
line_at matched s = cond (ltb matched 5) (parts (cut (take matched rule_tab ++ s))) (mid s)

pub cut_line : (b : ℕ) (s : Bytes) → cut (b ∷ s) ≡ line_of (b ∷ s) ∷ cut (after_line (b ∷ s))
unfolding cut line_of after_line
cut_line b [] = by_cases (eqb b LF) (λ t. rw t) (λ f. rw f)
cut_line b (c ∷ s) = by_cases (eqb b LF) (λ t. rw t) (λ f. rw (f, cut_line c s))

begins_line : (w s : Bytes) → Clear LF w → begins w (line_of s) ≡ begins w s
unfolding begins line_of
begins_line [] s h = refl
begins_line (a ∷ w) [] h = refl
begins_line (a ∷ w) (b ∷ s) h = by_cases (eqb b LF) (λ t. rw (t, eqb-true b LF t, h.0)) (λ f. rw (f, begins_line w s h.1))

-- the first rule, and what follows it
abbrev pub first_rule : Bytes → Parts
first_rule s = record { before = []; rules = record { head = line_of s; text = (parts (cut (after_line s))).before } ∷ (parts (cut (after_line s))).rules }

pub parts_cut : (s : Bytes) → parts (cut s) ≡ cond (begins rule_tab s) (first_rule s) (mid s)
unfolding parts cut begins line_of after_line
parts_cut [] = refl
parts_cut (b ∷ s) =
    ap parts (cut_line b s)
    ∙ rw (begins_line rule_tab (b ∷ s) (refl, (refl, (refl, (refl, (refl, tt))))))

-- A byte in the middle of a line, and one behind some bytes of `rule` TAB.
pub mid_byte : (b : ℕ) (s : Bytes) → mid (b ∷ s) ≡ plus (b ∷ []) (line_at (cond (eqb b LF) 0 5) s)
unfolding line_of after_line
mid_byte b s = by_cases (eqb b LF) (λ t. rw (t, eqb-true b LF t)) (λ f. rw f)

-- the bytes that have matched, while they are no rule line yet
abbrev pub pending : ℕ → Bytes
pending matched = cond (ltb matched 5) (take matched rule_tab) []

pub line_ends : (k : ℕ) → k ≤ 5 → line_at k [] ≡ record { before = pending k; rules = [] }
unfolding parts cut begins line_of after_line
line_ends zero h = refl
line_ends (suc zero) h = refl
line_ends (suc (suc zero)) h = refl
line_ends (suc (suc (suc zero))) h = refl
line_ends (suc (suc (suc (suc zero)))) h = refl
line_ends (suc (suc (suc (suc (suc zero))))) h = refl
line_ends (suc (suc (suc (suc (suc (suc k)))))) h = absurd (omega arith)

pub line_matches : (k b : ℕ) (s : Bytes) → matches k b ≡ true → k < 4 → line_at k (b ∷ s) ≡ line_at (suc k) s
line_matches zero b s e h = rw (eqb-true b 114 e)
line_matches (suc zero) b s e h = rw (eqb-true b 117 e)
line_matches (suc (suc zero)) b s e h = rw (eqb-true b 108 e)
line_matches (suc (suc (suc zero))) b s e h = rw (eqb-true b 101 e)
line_matches (suc (suc (suc (suc k)))) b s e h = absurd (omega arith)

pub rule_begins : (s : Bytes) → line_at 4 (TAB ∷ s) ≡ first_rule (rule_tab ++ s)
unfolding begins
rule_begins s = parts_cut (rule_tab ++ s)

turned : (a b : ℕ) → eqb b a ≡ false → eqb a b ≡ false
turned a b e = ne_eqb a b (λ p. eqb-false b a e (sym p))

pub line_misses : (k b : ℕ) (s : Bytes) → k ≤ 5 → matches k b ≡ false → line_at k (b ∷ s) ≡ plus (pending k) (plus (b ∷ []) (line_at (cond (eqb b LF) 0 5) s))
unfolding begins line_of after_line
line_misses zero b s h e = parts_cut (b ∷ s) ∙ rw (turned 114 b e) (mid_byte b s)
line_misses (suc zero) b s h e = parts_cut (take 1 rule_tab ++ (b ∷ s)) ∙ rw (turned 117 b e) (ap (plus (take 1 rule_tab)) (mid_byte b s))
line_misses (suc (suc zero)) b s h e = parts_cut (take 2 rule_tab ++ (b ∷ s)) ∙ rw (turned 108 b e) (ap (plus (take 2 rule_tab)) (mid_byte b s))
line_misses (suc (suc (suc zero))) b s h e = parts_cut (take 3 rule_tab ++ (b ∷ s)) ∙ rw (turned 101 b e) (ap (plus (take 3 rule_tab)) (mid_byte b s))
line_misses (suc (suc (suc (suc zero)))) b s h e = parts_cut (take 4 rule_tab ++ (b ∷ s)) ∙ rw (turned 9 b e) (ap (plus (take 4 rule_tab)) (mid_byte b s))
line_misses (suc (suc (suc (suc (suc zero))))) b s h e = mid_byte b s
line_misses (suc (suc (suc (suc (suc (suc k)))))) b s h e = absurd (omega arith)
