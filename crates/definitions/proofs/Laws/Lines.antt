-- A line has a node just when it is that node's line and the node is good. From the line to the node, by its keyword's entry in the
-- table; back, by the pieces of the node's line, which are its keyword and fields since no name holds a tab.
use Rattle.std.specs.Prelude.{◌≡◌, ◌↔◌, Bool, true, false, ◌&&◌, ℕ, ◌≤◌, ◌<◌, eqb}
use Rattle.std.proofs.Math.Path.{refl, sym}
use Rattle.std.proofs.Common.{◌∙◌}
use mathlib.Core.List.{List, [], ◌∷◌}
use Rattle.std.proofs.Math.Option.{Option, none, some}
use native.Mathlib.Omega.{arith}
use borrow.Author.Tests.{leb-true, le-leb}
use Rattle.std.proofs.Math.Dec.{leb}
use Rattle.std.proofs.Math.ListN.{length}
use Rattle.definitions.specs.Bytes.{Bytes, TAB, LF, same, split, behind_each, decimal, number}
use Rattle.definitions.specs.Syntax.{Name, and, or, imp, iff, Quant, all, ex}
use Rattle.definitions.specs.Limits.{Limits}
use Rattle.definitions.specs.RuleText.{letter, Manner, simple_name, variable_name, symbol_name, is_name, Node, top_node, bot_node, not_node, eq_node, bin_node, block_node, pred_node, fun_node, var_node, con_node, quant_word, keyword, fields, line}
use Rattle.definitions.specs.Reading.{Kind, alone, blocks, applied, symbol, look_up, keywords, all_names, counted, if, of_kind, of_fields, parse}
use Rattle.definitions.proofs.Laws.Bools.{by_cases, and_true_left, and_true_right}
use Rattle.definitions.proofs.Laws.Sets.{same_eq}
use Rattle.definitions.proofs.Laws.Decimal.{number_decimal, decimal_of_number}
use Rattle.definitions.specs.Laws.Pieces.{joined, Clear, AllClear}
use Rattle.definitions.proofs.Laws.Pieces.{join_split, split_joined, clear_append, letter_clear, name_clear, decimal_clear}
use Rattle.definitions.specs.Laws.Within.{Allowed, Good}
use Rattle.definitions.specs.Laws.Lines.{Spelled}

infixr 20 ◌then◌
-- keywords hold letters alone
lettered : Bytes → Bool
lettered [] = true
lettered (x ∷ s) = letter x && lettered s

lettered_clear : (b : ℕ) → b < 35 → (s : Bytes) → lettered s ≡ true → Clear b s
unfolding lettered
lettered_clear b low [] e = tt
lettered_clear b low (x ∷ s) e =
    (letter_clear b low x (and_true_left (letter x) (lettered s) e), lettered_clear b low s (and_true_right (letter x) (lettered s) e))

keyword_lettered : (n : Node) → lettered (keyword n) ≡ true
unfolding lettered letter
keyword_lettered top_node = refl
keyword_lettered bot_node = refl
keyword_lettered not_node = refl
keyword_lettered eq_node = refl
keyword_lettered (bin_node and) = refl
keyword_lettered (bin_node or) = refl
keyword_lettered (bin_node imp) = refl
keyword_lettered (bin_node iff) = refl
keyword_lettered (block_node all vs) = refl
keyword_lettered (block_node ex vs) = refl
keyword_lettered (pred_node p n) = refl
keyword_lettered (fun_node f n) = refl
keyword_lettered (var_node x) = refl
keyword_lettered (con_node c) = refl

keyword_clear : (b : ℕ) → b < 35 → (n : Node) → Clear b (keyword n)
keyword_clear b low n = lettered_clear b low (keyword n) (keyword_lettered n)

behind_each_clear : (b c : ℕ) → eqb c b ≡ false → (l : List Bytes) → AllClear b l → Clear b (behind_each c l)
unfolding behind_each
behind_each_clear b c d [] h = tt
behind_each_clear b c d (f ∷ l) h = (d, clear_append b f (behind_each c l) h.0 (behind_each_clear b c d l h.1))

-- an entry of the table is right: whatever fields give a node with it, the node is spelled so
abbrev Right : Limits → Bytes × Kind → Type 0
Right L e = (l : List Bytes) (n : Node) → of_kind L e.1 l ≡ some n → Spelled L e.0 l n

data AllRight (L : Limits) : List (Bytes × Kind) → Type 0 where
  no_more : AllRight L []
  ◌then◌ : {e : Bytes × Kind} {l : List (Bytes × Kind)} → Right L e → AllRight L l → AllRight L (e ∷ l)

module _ (L : Limits) where
  -- an answer `some m`, or none, that is `some n`
  it_is : (w : Bytes) (l : List Bytes) (m n : Node) → some m ≡ some n → Spelled L w l m → Spelled L w l n
  it_is w l m n e h = let p : m ≡ n = cc in rw p at h

  nothing {ℓ} : {A : Type ℓ} (n : Node) → none ≡ some n → A
  nothing n e = let z : ◌≡◌ {A = ℕ} 0 1 = cc in absurd (omega arith)

  if_some : (w : Bytes) (l : List Bytes) (n : Node) (b : Bool) (o : Option Node) → if b o ≡ some n → (b ≡ true → o ≡ some n → Spelled L w l n) → Spelled L w l n
  if_some w l n true o e k = k refl e
  if_some w l n false o e k = nothing n e

  alone_right : (m : Node) → fields m ≡ [] → Allowed L m → Right L (keyword m, alone m)
  unfolding of_kind
  alone_right m e a [] n d = it_is (keyword m) [] m n d (record { word = refl; fields_are = e; allowed = a })
  alone_right m e a (f ∷ l) n d = nothing n d

  blocks_right : (q : Quant) → Right L (quant_word q, blocks q)
  unfolding of_kind
  blocks_right q [] n d = nothing n d
  blocks_right q (f ∷ l) n d =
      let few = leb (length (f ∷ l)) L.block in
      if_some (quant_word q) (f ∷ l) n (few && all_names L variable_name (f ∷ l)) (some (block_node q (f ∷ l))) d
      (λ t e. it_is (quant_word q) (f ∷ l) (block_node q (f ∷ l)) n e (record {
        word = refl;
        fields_are = refl;
        allowed = (omega arith, leb-true (length (f ∷ l)) L.block (and_true_left few (all_names L variable_name (f ∷ l)) t), and_true_right few (all_names L variable_name (f ∷ l)) t);
      }))

  counted_right : (w : Bytes) (l : List Bytes) (k : ℕ → Node) (n : Node) (o : Option ℕ) → counted L o k ≡ some n → ((c : ℕ) → o ≡ some c → c ≤ L.arguments → Spelled L w l (k c)) → Spelled L w l n
  counted_right w l k n none d h = nothing n d
  counted_right w l k n (some c) d h =
      if_some w l n (leb c L.arguments) (some (k c)) d (λ t e. it_is w l (k c) n e (h c refl (leb-true c L.arguments t)))

  applied_right : (m : Manner) (k : Name → ℕ → Node) (w : Bytes)
      → ((f : Name) (c : ℕ) → is_name L m f ≡ true → c ≤ L.arguments → Spelled L w (f ∷ decimal c ∷ []) (k f c)) → Right L (w, applied m k)
  unfolding of_kind
  applied_right m k w h [] n d = nothing n d
  applied_right m k w h (f ∷ []) n d = nothing n d
  applied_right m k w h (f ∷ s ∷ []) n d =
      if_some w (f ∷ s ∷ []) n (is_name L m f) (counted L (number s) (k f)) d
      (λ t e. counted_right w (f ∷ s ∷ []) (k f) n (number s) e (λ c p few. rw (decimal_of_number s c p) (h f c t few)))
  applied_right m k w h (f ∷ s ∷ g ∷ l) n d = nothing n d

  symbol_right : (m : Manner) (k : Name → Node) (w : Bytes) → ((f : Name) → is_name L m f ≡ true → Spelled L w (f ∷ []) (k f)) → Right L (w, symbol m k)
  unfolding of_kind
  symbol_right m k w h [] n d = nothing n d
  symbol_right m k w h (f ∷ []) n d = if_some w (f ∷ []) n (is_name L m f) (some (k f)) d (λ t e. it_is w (f ∷ []) (k f) n e (h f t))
  symbol_right m k w h (f ∷ g ∷ l) n d = nothing n d

  keywords_right : AllRight L keywords
  keywords_right =
      alone_right top_node refl tt
      then alone_right bot_node refl tt
      then alone_right not_node refl tt
      then alone_right (bin_node and) refl tt
      then alone_right (bin_node or) refl tt
      then alone_right (bin_node imp) refl tt
      then alone_right (bin_node iff) refl tt
      then alone_right eq_node refl tt
      then blocks_right all
      then blocks_right ex
      then applied_right simple_name pred_node (keyword (pred_node [] 0)) (λ f c t few. record { word = refl; fields_are = refl; allowed = (t, few) })
      then applied_right symbol_name fun_node (keyword (fun_node [] 0)) (λ f c t few. record { word = refl; fields_are = refl; allowed = (t, few) })
      then symbol_right variable_name var_node (keyword (var_node [])) (λ f t. record { word = refl; fields_are = refl; allowed = t })
      then symbol_right symbol_name con_node (keyword (con_node [])) (λ f t. record { word = refl; fields_are = refl; allowed = t })
      then no_more

  look_up_right : (E : List (Bytes × Kind)) → AllRight L E → (w : Bytes) (l : List Bytes) (n : Node) → of_kind L (look_up E w) l ≡ some n → Spelled L w l n
  unfolding look_up of_kind
  look_up_right E no_more w l n d = nothing n d
  look_up_right E (◌then◌ {e = e} {l = F} h hs) w l n d =
      by_cases (same w e.0)
      (λ t. rw (same_eq w e.0 t) (h l n (rw t at d)))
      (λ f. look_up_right F hs w l n (rw f at d))

  parse_gives : (s : Bytes) (n : Node) → parse L s ≡ some n → (s ≡ line n) × Good L n
  unfolding parse joined
  parse_gives s n e =
      by_cases (leb (length s) L.line)
      (λ t. go (leb-true (length s) L.line t) (split TAB s) (join_split TAB s) (rw t at e))
      (λ f. nothing n (rw f at e))
    where
      go : length s ≤ L.line → (p : List Bytes) → joined TAB p ≡ s → of_fields L p ≡ some n → (s ≡ line n) × Good L n
      go h [] j d = nothing n d
      go h (w ∷ l) j d =
          let a = look_up_right keywords keywords_right w l n d in
          let p : s ≡ line n = sym j ∙ rw (a.word, a.fields_are) in
          (p, record { allowed = a.allowed; short = rw p at h })

  names_clear : (b : ℕ) → b < 35 → (m : Manner) (l : List Bytes) → all_names L m l ≡ true → AllClear b l
  unfolding all_names
  names_clear b low m [] e = tt
  names_clear b low m (f ∷ l) e =
      (name_clear b low L m f (and_true_left (is_name L m f) (all_names L m l) e), names_clear b low m l (and_true_right (is_name L m f) (all_names L m l) e))

  fields_clear : (b : ℕ) → b < 35 → (n : Node) → Allowed L n → AllClear b (fields n)
  fields_clear b low top_node a = tt
  fields_clear b low bot_node a = tt
  fields_clear b low not_node a = tt
  fields_clear b low eq_node a = tt
  fields_clear b low (bin_node o) a = tt
  fields_clear b low (block_node q vs) a = names_clear b low variable_name vs a.2
  fields_clear b low (pred_node p n) a = (name_clear b low L simple_name p a.0, (decimal_clear b low n, tt))
  fields_clear b low (fun_node f n) a = (name_clear b low L symbol_name f a.0, (decimal_clear b low n, tt))
  fields_clear b low (var_node x) a = (name_clear b low L variable_name x a, tt)
  fields_clear b low (con_node c) a = (name_clear b low L symbol_name c a, tt)

  -- the keyword and fields of a node, where they are allowed, give it
  fields_parse : (n : Node) → Allowed L n → of_fields L (keyword n ∷ fields n) ≡ some n
  unfolding look_up same of_kind
  fields_parse top_node a = refl
  fields_parse bot_node a = refl
  fields_parse not_node a = refl
  fields_parse eq_node a = refl
  fields_parse (bin_node and) a = refl
  fields_parse (bin_node or) a = refl
  fields_parse (bin_node imp) a = refl
  fields_parse (bin_node iff) a = refl
  fields_parse (block_node q []) a = absurd (omega (arith, a.0))
  fields_parse (block_node all (x ∷ vs)) a = rw (le-leb (length (x ∷ vs)) L.block a.1, a.2)
  fields_parse (block_node ex (x ∷ vs)) a = rw (le-leb (length (x ∷ vs)) L.block a.1, a.2)
  fields_parse (pred_node p n) a = rw (a.0, number_decimal n, le-leb n L.arguments a.1)
  fields_parse (fun_node f n) a = rw (a.0, number_decimal n, le-leb n L.arguments a.1)
  fields_parse (var_node x) a = rw a
  fields_parse (con_node c) a = rw a

  split_line : (n : Node) → Allowed L n → split TAB (line n) ≡ keyword n ∷ fields n
  split_line n a = split_joined TAB (keyword n) (fields n) (keyword_clear TAB (omega arith) n, fields_clear TAB (omega arith) n a)

  pub line_clear : (n : Node) → Good L n → Clear LF (line n)
  line_clear n g =
      clear_append LF (keyword n) (behind_each TAB (fields n)) (keyword_clear LF (omega arith) n)
      (behind_each_clear LF TAB refl (fields n) (fields_clear LF (omega arith) n g.allowed))

  good_parses : (n : Node) → Good L n → parse L (line n) ≡ some n
  unfolding parse
  good_parses n g = rw (le-leb (length (line n)) L.line g.short, split_line n g.allowed) (fields_parse n g.allowed)

  pub parse_iff : (s : Bytes) (n : Node) → (parse L s ≡ some n) ↔ ((s ≡ line n) × Good L n)
  parse_iff s n = (parse_gives s n, λ h. rw h.0 (good_parses n h.1))
