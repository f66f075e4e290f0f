-- The first byte is tested apart; behind it stand bytes of the manner's set, which are skipped.
use Rattle.std.proofs.Common.{ℕ, ◌-◌, take, ◌≡◌, sym, ap, ◌∙◌, not, length, drop, List, rules, tests}
use Rattle.std.proofs.lemmas.Iterator.{YieldsList-from_slice}
use Rattle.std.proofs.lemmas.Iterator.Search.{all_from_yields_List, position_from_yields_List}
use Rattle.definitions.specs.Bytes.{null, skip}
use Rattle.definitions.specs.RuleText.{tick, word, hashed, behind}
use Rattle.reader.proofs.Pieces.{first_place, all_skipped, skipped, name_rest, rest_of, other_manner}
use Rattle.reader.proofs.is_name_of_kind.Goals as goal

pub returns-in-Variable : goal.returns-in-Variable
unfolding behind tick
returns-in-Variable c =
    let r = drop 1 c.args.s.now in
    let p = position_from_yields_List (λ (x : ℕ). not (word x)) _ _ c.position.result c.position.ensures.ran
    (YieldsList-from_slice r (c.iter.ensures.rest ∙ rest_of _ 1)) (λ x b q k. search (rules, tests)) in
    let e = c.unwrap_or-end.ensures ∙ first_place (λ (x : ℕ). not (word x)) r _ _ p (ap length (rest_of c.args.s.now 1)) in
    let s = drop c.unwrap_or-end.result r in
    let z = c.iter-in-Variable.ensures.rest ∙ rest_of (take (length c.args.s.now - 1) r) c.unwrap_or-end.result
    ∙ ap (drop c.unwrap_or-end.result) (rest_of c.args.s.now 1) in
    let a = all_from_yields_List tick _ _ c.all.result c.all.ensures.ran (YieldsList-from_slice s z) (λ x b q k. search (rules, tests)) in
    let w : s ≡ skip word r = ap (λ (n : ℕ). drop n r) e ∙ sym (skipped word r) in
    a ∙ sym (all_skipped tick s) ∙ ap (λ (x : List ℕ). null (skip tick x)) w
    ∙ rw c.in-Variable.is (name_rest _ _ c.in-len1-up.len_at_least c.if-s-gt-NAME.false (sym c.is_letter.ensures ∙ c.if-not-is_letter.false))

pub returns-in-Predicate : goal.returns-in-Predicate
unfolding behind
returns-in-Predicate c =
    let r = drop 1 c.args.s.now in
    let a = all_from_yields_List word _ _ c.all-in-Predicate.result c.all-in-Predicate.ensures.ran
    (YieldsList-from_slice r (c.iter-in-Predicate.ensures.rest ∙ rest_of _ 1)) (λ x b q k. search (rules, tests)) in
    a ∙ sym (all_skipped word r)
    ∙ rw c.in-Predicate.is (name_rest _ _ c.in-len1-up.len_at_least c.if-s-gt-NAME.false (sym c.is_letter.ensures ∙ c.if-not-is_letter.false))

pub returns-in_default-kind : goal.returns-in_default-kind
unfolding behind
returns-in_default-kind c =
    let r = drop 1 c.args.s.now in
    let a = all_from_yields_List hashed _ _ c.all-in_default-kind.result c.all-in_default-kind.ensures.ran
    (YieldsList-from_slice r (c.iter-in_default-kind.ensures.rest ∙ rest_of _ 1)) (λ x b q k. search (rules, tests)) in
    a ∙ sym (all_skipped hashed r)
    ∙ rw (other_manner _ c.in_default-kind.not-Variable c.in_default-kind.not-Predicate)
    (name_rest _ _ c.in-len1-up.len_at_least c.if-s-gt-NAME.false (sym c.is_letter.ensures ∙ c.if-not-is_letter.false))
