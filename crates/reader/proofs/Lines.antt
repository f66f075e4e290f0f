-- A line's node by its keyword's kind and its fields, and how it was seen: what the definition answers for a kind of each group, and what the
-- code makes of the line.
use Rattle.std.proofs.Common.{◌≡◌, refl, ◌∙◌, Bool, true, false, List, [], ◌∷◌, ℕ, ◌+◌, ◌-◌, ◌^◌, ◌<◌, ◌≤◌, length, take, drop, cond, eqb, leb, ltb}
use Rattle.std.proofs.Common.{arith, ◌⊎◌, inl, inr}
use Rattle.std.specs.Prelude.{Option, Some, None}
use mathlib.Core.Option.{Option as Perhaps, none, some}
use borrow.Author.Tests.{le-leb, lt-leb, leb-true, lt-ltb, le-ltb, ltb-true, ltb-false}
use lib.ListN.{length-drop}
use lib.Seq.{take_all}
use Rattle.definitions.specs.Bytes.{Bytes, split}
use Rattle.definitions.specs.Limits.{house}
use Rattle.definitions.specs.Syntax.{Name, Quant, all, ex, and, or, imp, iff}
use Rattle.definitions.specs.RuleText.{variable_name, is_name, Node, top_node, bot_node, not_node, eq_node, bin_node, block_node, pred_node, fun_node}
use Rattle.definitions.specs.RuleText.{var_node, con_node}
use Rattle.definitions.specs.Reading.{alone, blocks, applied, symbol, keywords, look_up, all_names, counted, of_kind, parse, node_weight, is_term}
use Rattle.definitions.specs.Reading.{parts, some_due}
use Rattle.definitions.proofs.Laws.Bools.{by_cases, and_true_left, and_true_right}
use Rattle.text.specs.declared.kind.Kind.{Kind}
use Rattle.text.specs.declared.kind.Kind.TheVariants.{Top, Bottom, Not, And, Or, Implies, Iff, Equals, All, Exists, Predicate, Function, Variable, Constant}
use Rattle.reader.specs.declared.Seen.{Seen}
use Rattle.text.specs.Kinds.{number}
use Rattle.text.specs.Words.{word_of, sign, block_kind}
use Rattle.reader.specs.Lines.{upto, keyword_of, Named, Unnamed, manner_of, Counted, perhaps, block_fits, behind, Alone, kind_is_term}
use Rattle.reader.specs.Lines.{parts_are_terms, node_code, Sees, Saw, SawAs}
use Rattle.reader.proofs.Pieces.{piece, split_many, some_piece, first_piece, last_piece, piece_length, rest_of}
use Rattle.reader.proofs.Fields.{name_token, stand_sign, stand_name, name_short, no_variables}

-- Kinds of each group, and their nodes.
record Plain (kind : Kind) (n : ℕ) : Type 0 where
  node : Node
  is : keyword_of kind ≡ alone node
  sort : kind_is_term kind ≡ is_term node
  below : (d : ℕ) → parts node d ≡ some_due n (parts_are_terms kind) d
  weight : node_weight node ≡ 1
  code : node_code node ≡ sign (number kind) 0 [] ∷ []
  other : eqb (number kind) 12 ≡ false

plain : (kind : Kind) (n : ℕ) → Alone kind n → Plain kind n
plain Top n h = record { node = top_node; is = refl; sort = refl; below = λ d. rw h refl; weight = refl; code = refl; other = refl }
plain Bottom n h = record { node = bot_node; is = refl; sort = refl; below = λ d. rw h refl; weight = refl; code = refl; other = refl }
plain Not n h = record { node = not_node; is = refl; sort = refl; below = λ d. rw h refl; weight = refl; code = refl; other = refl }
plain And n h = record { node = bin_node and; is = refl; sort = refl; below = λ d. rw h refl; weight = refl; code = refl; other = refl }
plain Or n h = record { node = bin_node or; is = refl; sort = refl; below = λ d. rw h refl; weight = refl; code = refl; other = refl }
plain Implies n h = record { node = bin_node imp; is = refl; sort = refl; below = λ d. rw h refl; weight = refl; code = refl; other = refl }
plain Iff n h = record { node = bin_node iff; is = refl; sort = refl; below = λ d. rw h refl; weight = refl; code = refl; other = refl }
plain Equals n h = record { node = eq_node; is = refl; sort = refl; below = λ d. rw h refl; weight = refl; code = refl; other = refl }
plain All n h = absurd h
plain Exists n h = absurd h
plain Predicate n h = absurd h
plain Function n h = absurd h
plain Variable n h = absurd h
plain Constant n h = absurd h

record Block (kind : Kind) : Type 0 where
  quant : Quant
  is : keyword_of kind ≡ blocks quant
  sort : kind_is_term kind ≡ false
  below : parts_are_terms kind ≡ false
  coded : block_kind quant ≡ number kind
  other : eqb (number kind) 12 ≡ false

block : (kind : Kind) → (kind ≡ All) ⊎ (kind ≡ Exists) → Block kind
block kind (inl e) = rw e (record { quant = all; is = refl; sort = refl; below = refl; coded = refl; other = refl })
block kind (inr e) = rw e (record { quant = ex; is = refl; sort = refl; below = refl; coded = refl; other = refl })

-- a node of a kind with a count and a name
record Bears (kind : Kind) (c : ℕ) (f : Name) (n : Node) : Type 0 where
  sort : kind_is_term kind ≡ is_term n
  below : (d : ℕ) → parts n d ≡ some_due c (parts_are_terms kind) d
  weight : node_weight n ≡ 1
  code : node_code n ≡ name_token (number kind) c f ∷ []

record Applied (kind : Kind) : Type 0 where
  make : Name → ℕ → Node
  is : keyword_of kind ≡ applied (manner_of kind) make
  bears : (f : Name) (c : ℕ) → Bears kind c f (make f c)
  low : number kind ≤ 13

with_arguments : (kind : Kind) → (kind ≡ Predicate) ⊎ (kind ≡ Function) → Applied kind
with_arguments kind (inl e) = rw e
    (record { make = pred_node; is = refl; bears = λ f c. record { sort = refl; below = λ d. refl; weight = refl; code = refl }; low = omega arith })
with_arguments kind (inr e) = rw e
    (record { make = fun_node; is = refl; bears = λ f c. record { sort = refl; below = λ d. refl; weight = refl; code = refl }; low = omega arith })

record Symbol (kind : Kind) : Type 0 where
  make : Name → Node
  is : keyword_of kind ≡ symbol (manner_of kind) make
  bears : (f : Name) → Bears kind 0 f (make f)
  low : number kind ≤ 13

with_name : (kind : Kind) → (kind ≡ Variable) ⊎ (kind ≡ Constant) → Symbol kind
with_name kind (inl e) = rw e
    (record { make = var_node; is = refl; bears = λ f. record { sort = refl; below = λ d. refl; weight = refl; code = refl }; low = omega arith })
with_name kind (inr e) = rw e
    (record { make = con_node; is = refl; bears = λ f. record { sort = refl; below = λ d. refl; weight = refl; code = refl }; low = omega arith })

low : (kind : Kind) → number kind ≤ 15
low Top = omega arith
low Bottom = omega arith
low Not = omega arith
low And = omega arith
low Or = omega arith
low Implies = omega arith
low Iff = omega arith
low Equals = omega arith
low All = omega arith
low Exists = omega arith
low Predicate = omega arith
low Function = omega arith
low Variable = omega arith
low Constant = omega arith

-- What was seen of a line, where its node is known.
saw_none : (at : ℕ) (l : Bytes) (o : Perhaps Node) → o ≡ none → Saw at l o None
saw_none at l o e = rw e refl

-- the fields behind a keyword that ends at `end`
module _ (l : Bytes) (end : ℕ) where
  no_fields : length l ≤ end → behind l end ≡ []
  no_fields h = rw (le-ltb end (length l) h)

  some_fields : end < length l → behind l end ≡ split 9 (drop (end + 1) l)
  some_fields h = rw (lt-ltb end (length l) h)

module _ (kind : Kind) (at : ℕ) (l : Bytes) (end : ℕ) where
  -- what is asked of the line's node
  abbrev its_node : Perhaps Node
  its_node = of_kind house (keyword_of kind) (behind l end)

  pub plain_more : (n : ℕ) → Alone kind n → end < length l → Saw at l its_node None
  unfolding of_kind
  plain_more n a h = rw (some_fields l end h) (more (split 9 (drop (end + 1) l)) (split_many 9 (drop (end + 1) l)))
    where
      more : (r : List Bytes) → 0 < length r → Saw at l (of_kind house (keyword_of kind) r) None
      more [] s = absurd (omega arith)
      more (f ∷ r) s = rw (plain kind n a).is refl

  pub plain_sees : (n w : ℕ) → Alone kind n → length l ≤ end → length l ≤ house.line → w ≡ word_of (number kind) 0 0 0 0
      → Saw at l its_node (Some (record { kind = kind; parts = n; word = w; variables = 0; from = 0 }))
  unfolding of_kind
  plain_sees n w a h s e =
      let p = plain kind n a in
      rw (no_fields l end h, p.is) (record {
        sort = p.sort;
        below = p.below;
        weight = p.weight;
        slim = omega arith;
        short = s;
        block = no_variables l 0;
        head = sign (number kind) 0 [];
        first = λ T i. rw e (stand_sign T (number kind) 0 (low kind) p.other (omega arith));
        code = p.code;
      })

  -- a block's line
  module _ (b : (kind ≡ All) ⊎ (kind ≡ Exists)) where
    pub block_bare : length l ≤ end → Saw at l its_node None
    unfolding of_kind
    block_bare h = rw (no_fields l end h, (block kind b).is) refl

    a_block : (r : List Bytes) → 0 < length r → (v : Bool) → block_fits r ≡ v
        → of_kind house (keyword_of kind) r ≡ cond v (some (block_node (block kind b).quant r)) none
    unfolding of_kind
    a_block [] n v e = absurd (omega arith)
    a_block (f ∷ r) n v e = rw ((block kind b).is, e)

    pub block_none : end < length l → block_fits (split 9 (drop (end + 1) l)) ≡ false → Saw at l its_node None
    block_none h e = saw_none at l _ (rw (some_fields l end h) (a_block _ (split_many 9 (drop (end + 1) l)) false e))

    pub block_sees : (n w : ℕ) → end < length l → length l ≤ house.line → block_fits (split 9 (drop (end + 1) l)) ≡ true
        → n ≡ length (split 9 (drop (end + 1) l)) → w ≡ word_of (number kind) n 0 0 0
        → Saw at l its_node (Some (record { kind = kind; parts = 1; word = w; variables = n; from = end + 1 }))
    block_sees n w h s t z e =
        let p = block kind b in
        let F = split 9 (drop (end + 1) l) in
        let few = leb-true (length F) 32 (and_true_left (leb (length F) 32) (all_names house variable_name F) t) in
        let whole = take_all n F (omega arith) in
        rw (some_fields l end h, a_block F (split_many 9 (drop (end + 1) l)) true t) (record {
          sort = p.sort;
          below = λ d. rw p.below refl;
          weight = rw z refl;
          slim = omega (arith, few);
          short = s;
          block = record
              { starts = λ q. omega arith; number = omega arith; names = rw whole (and_true_right (leb (length F) 32) (all_names house variable_name F) t) };
          head = sign (number kind) n [];
          first = λ T i. rw e (stand_sign T (number kind) n (low kind) p.other (omega (arith, few)));
          code = rw (p.coded, whole, z) refl;
        })

  -- the line of a symbol, whose name stops at `stop`
  module _ (stop : ℕ) (h : end < length l) (found : stop ≡ end + 1 + upto 9 (drop (end + 1) l)) where
    abbrev its_name : Bytes
    its_name = piece l (end + 1) stop

    pub name_fits : stop ≤ length l → is_name house (manner_of kind) its_name ≡ true → stop - (end + 1) ≤ house.name
    name_fits g e = omega (arith, name_short (manner_of kind) its_name e, piece_length l (end + 1) stop (omega arith) g)

    last_field : length l ≤ stop → behind l end ≡ its_name ∷ []
    last_field g = rw (some_fields l end h) (last_piece 9 l (end + 1) stop (omega arith) found g)

    more_fields : stop < length l → behind l end ≡ its_name ∷ split 9 (drop (stop + 1) l)
    more_fields g = rw (some_fields l end h) (first_piece 9 l (end + 1) stop (omega arith) found g)

    some_field : (r : List Bytes) × (behind l end ≡ its_name ∷ r)
    some_field = let p = some_piece 9 l (end + 1) stop (omega arith) found in (p.0, rw (some_fields l end h) p.1)

    sees_name : (c w : ℕ) (n : Node) → stop ≤ length l → number kind ≤ 13 → c ≤ 32 → length l ≤ house.line → at ≤ 2 ^ 30
        → is_name house (manner_of kind) its_name ≡ true
        → w ≡ word_of (number kind) c 0 (stop - (end + 1)) (at + (end + 1)) → Bears kind c its_name n
        → Sees at l n (record { kind = kind; parts = c; word = w; variables = 0; from = 0 })
    sees_name c w n g k m s low e d b =
        let short = name_fits g e in
        record {
          sort = b.sort;
          below = b.below;
          weight = b.weight;
          slim = omega arith;
          short = s;
          block = no_variables l 0;
          head = name_token (number kind) c its_name;
          first = λ T x. stand_name T at l (number kind) c (end + 1) (stop - (end + 1)) w x (omega arith) (omega arith) (omega arith) (omega arith)
              (omega arith) d;
          code = b.code;
        }

    -- a variable's or a constant's
    module _ (b : (kind ≡ Variable) ⊎ (kind ≡ Constant)) where
      pub name_more : stop < length l → Saw at l its_node None
      unfolding of_kind
      name_more g = rw (more_fields g) (more (split 9 (drop (stop + 1) l)) (split_many 9 (drop (stop + 1) l)))
        where
          more : (r : List Bytes) → 0 < length r → Saw at l (of_kind house (keyword_of kind) (its_name ∷ r)) None
          more [] n = absurd (omega arith)
          more (x ∷ r) n = rw (with_name kind b).is refl

      pub name_bad : is_name house (manner_of kind) its_name ≡ false → Saw at l its_node None
      unfolding of_kind
      name_bad e = rw some_field.1 (bad some_field.0)
        where
          bad : (r : List Bytes) → Saw at l (of_kind house (keyword_of kind) (its_name ∷ r)) None
          bad [] = rw ((with_name kind b).is, e) refl
          bad (x ∷ r) = rw (with_name kind b).is refl

      pub name_sees : (w : ℕ) → length l ≤ stop → stop ≤ length l → is_name house (manner_of kind) its_name ≡ true → length l ≤ house.line
          → at ≤ 2 ^ 30 → w ≡ word_of (number kind) 0 0 (stop - (end + 1)) (at + (end + 1))
          → Saw at l its_node (Some (record { kind = kind; parts = 0; word = w; variables = 0; from = 0 }))
      unfolding of_kind
      name_sees w g i e s low d =
          let p = with_name kind b in
          rw (last_field g, p.is, e) (sees_name 0 w (p.make its_name) i p.low (omega arith) s low e d (p.bears its_name))

    -- a predicate's or a function's
    module _ (b : (kind ≡ Predicate) ⊎ (kind ≡ Function)) where
      pub applied_one : length l ≤ stop → Saw at l its_node None
      unfolding of_kind
      applied_one g = rw (last_field g, (with_arguments kind b).is) refl

      pub applied_bad : is_name house (manner_of kind) its_name ≡ false → Saw at l its_node None
      unfolding of_kind
      applied_bad e = rw some_field.1 (bad some_field.0)
        where
          bad : (r : List Bytes) → Saw at l (of_kind house (keyword_of kind) (its_name ∷ r)) None
          bad [] = rw (with_arguments kind b).is refl
          bad (x ∷ []) = rw ((with_arguments kind b).is, e) refl
          bad (x ∷ y ∷ r) = rw (with_arguments kind b).is refl

      -- the count is what stands behind the name
      module _ (g : stop < length l) (last : ℕ) (found' : last ≡ stop + 1 + upto 9 (drop (stop + 1) l)) where
        pub applied_more : last < length l → Saw at l its_node None
        unfolding of_kind
        applied_more n = rw (more_fields g, first_piece 9 l (stop + 1) last (omega arith) found' n)
            (more (split 9 (drop (last + 1) l)) (split_many 9 (drop (last + 1) l)))
          where
            more : (r : List Bytes) → 0 < length r → Saw at l (of_kind house (keyword_of kind) (its_name ∷ piece l (stop + 1) last ∷ r)) None
            more [] n = absurd (omega arith)
            more (x ∷ r) n = rw (with_arguments kind b).is refl

        module _ (n : length l ≤ last) (e : is_name house (manner_of kind) its_name ≡ true) (c : Option ℕ) (q : Counted (drop (stop + 1) l) c) where
          by_count : its_node ≡ counted house (perhaps c) ((with_arguments kind b).make its_name)
          unfolding of_kind
          by_count =
              let z = take_all (last - (stop + 1)) (drop (stop + 1) l) (rw length-drop (omega arith)) in
              rw (
                more_fields g,
                last_piece 9 l (stop + 1) last (omega arith) found' n,
                z,
                (with_arguments kind b).is,
                e,
                q
                    ((with_arguments kind b).make its_name),
              ) refl

          pub applied_none : c ≡ None → Saw at l its_node None
          applied_none z = saw_none at l _ (by_count ∙ rw z refl)

          pub applied_large : (m : ℕ) → c ≡ Some m → 32 < m → Saw at l its_node None
          applied_large m z h = saw_none at l _ (by_count ∙ rw (z, lt-leb m 32 h) refl)

          pub applied_sees : (m w : ℕ) → c ≡ Some m → m ≤ 32 → stop ≤ length l → length l ≤ house.line → at ≤ 2 ^ 30
              → w ≡ word_of (number kind) m 0 (stop - (end + 1)) (at + (end + 1))
              → Saw at l its_node (Some (record { kind = kind; parts = m; word = w; variables = 0; from = 0 }))
          applied_sees m w z h i s low d =
              let p = with_arguments kind b in
              rw (by_count, z, le-leb m 32 h) (sees_name m w (p.make its_name m) i p.low h s low e d (p.bears its_name m))

  pub name_bare : (kind ≡ Variable) ⊎ (kind ≡ Constant) → length l ≤ end → Saw at l its_node None
  unfolding of_kind
  name_bare b h = rw (no_fields l end h, (with_name kind b).is) refl

  pub applied_bare : (kind ≡ Predicate) ⊎ (kind ≡ Function) → length l ≤ end → Saw at l its_node None
  unfolding of_kind
  applied_bare b h = rw (no_fields l end h, (with_arguments kind b).is) refl

-- A line by its keyword, which ends at `end`.
pub long : (at : ℕ) (l : Bytes) → house.line < length l → Saw at l (parse house l) None
unfolding parse
long at l h = rw (lt-leb (length l) 1024 h) refl

module _ (l : Bytes) (h : length l ≤ house.line) (end : ℕ) (found : end ≡ 0 + upto 9 (drop 0 l)) where
  all_fields : split 9 l ≡ take end l ∷ behind l end
  all_fields =
      let z : end - 0 ≡ end = omega arith in
      by_cases (ltb end (length l))
      (λ t. rw (some_fields l end (ltb-true end (length l) t), first_piece 9 l 0 end (omega arith) found (ltb-true end (length l) t), z))
      (λ f. rw (no_fields l end (ltb-false end (length l) f), last_piece 9 l 0 end (omega arith) found (ltb-false end (length l) f), z))

  by_fields : parse house l ≡ of_kind house (look_up keywords (take end l)) (behind l end)
  unfolding parse
  by_fields = rw (le-leb (length l) 1024 h, all_fields)

  pub no_keyword : (at : ℕ) → Unnamed (take end l) → Saw at l (parse house l) None
  unfolding of_kind
  no_keyword at u = rw (by_fields, u.meaning) refl

  pub parsed : (at : ℕ) (kind : Kind) (r : Option Seen) → Named (take end l) kind → SawAs kind end at l r → Saw at l (parse house l) r
  parsed at kind r u w = rw (by_fields, u.meaning) w

-- what the functions of these lines need
pub ruleset block_lines = (block_bare, block_none, block_sees)

pub ruleset symbol_lines = (name_bare, name_more, name_bad, name_sees, name_fits)

pub ruleset applied_lines = (applied_bare, applied_one, applied_bad, applied_more, applied_none, applied_large, applied_sees, name_fits, rest_of)

pub ruleset parsing = (long, no_keyword, parsed)
