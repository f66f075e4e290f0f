-- A run that is copied place by place: what stands where so many places are done, and at the end.
use Rattle.std.proofs.Common.{◌≡◌, sym, ap, ◌∙◌, ℕ, ◌+◌, ◌<◌, ◌≤◌, List, length, take, drop, set, get_or, arith, ltb, ltb-true, ltb-false}
use Rattle.std.proofs.Math.Seq.{take-suc, take-suc-set}
use Rattle.std.proofs.lemmas.List.{drop-set-lt, drop-drop, take_all, drop_all, length-set}
use Rattle.definitions.proofs.Laws.Bools.{by_cases}
use native.Mathlib.Numerals.{add-one}
use Rattle.text.specs.Copies.{Copied}

pub record Copying {A : Type 0} (O S : List A) (i : ℕ) (O' : List A) : Type 0 where
  pub inside : i ≤ length S
  pub size : length O' ≡ length O
  pub front : take i O' ≡ take i S
  pub back : drop i O' ≡ drop i O

module _ {A : Type 0} (O S : List A) (i : ℕ) (O' : List A) (c : Copying O S i O') where
  pub one_more : (x : A) → x ≡ get_or S i x → i < length S → i < length O → Copying O S (i + 1) (set O' i x)
  one_more x e h k =
      record {
        inside = omega arith;
        size = length-set O' i x ∙ c.size;
        front =
            ap (λ (n : ℕ). take n (set O' i x)) (add-one i)
            ∙ take-suc-set O' i x (omega (arith, c.size))
            ∙ rw (c.front, e) (sym (take-suc S i x h))
            ∙ ap (λ (n : ℕ). take n S) (sym (add-one i));
        back =
            drop-set-lt (i + 1) O' i x (omega arith)
            ∙ sym (drop-drop 1 i O')
            ∙ ap (drop 1) c.back
            ∙ drop-drop 1 i O;
      }

  -- the places that are done are as many as the shorter run has
  pub all_copied : i ≤ length O → (i < length S → i ≡ length O) → Copied O S O'
  all_copied n e =
      by_cases (ltb i (length S))
      (λ t. let f = e (ltb-true i (length S) t) in
      record {
        size = c.size;
        front = take_all (length S) O' (omega (arith, c.size, c.inside)) ∙ sym (take_all i O' (omega (arith, c.size))) ∙ c.front ∙ rw f;
        back = drop_all (length S) O' (omega (arith, c.size, c.inside)) ∙ sym (drop_all (length S) O (omega (arith, c.inside)));
      })
      (λ t. let f : i ≡ length S = omega (arith, ltb-false i (length S) t, c.inside) in
      record {
        size = c.size;
        front = rw (← f) (c.front ∙ take_all i S (omega arith) ∙ sym (take_all (length O) S (omega arith)));
        back = rw (← f) c.back;
      })

pub whole_copied : {A : Type 0} (O S O' : List A) → Copied O S O' → length S ≡ length O → O' ≡ S
whole_copied O S O' c e =
    sym (take_all (length S) O' (omega (arith, c.size))) ∙ c.front ∙ take_all (length O) S (omega arith)
