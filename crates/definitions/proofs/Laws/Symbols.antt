-- The truth value depends on the meaning of a formula's own symbols only. What a substitution brings in.
use Rattle.std.specs.Prelude.{◌≡◌, Bool, true, false, ◌||◌, List, [], ◌∷◌, ◌++◌}
use Rattle.std.proofs.Math.Path.{refl, ap, ap₂, fun_ext}
use Rattle.std.proofs.Common.{sym, ◌∙◌}
use Rattle.std.proofs.Math.Bool.{not, and-false}
use Rattle.definitions.specs.Syntax.{Formula, Name, Term, Terms, app, bin, blk, bot, con, cons, eq, neg, nil, pred, top, var}
use Rattle.definitions.specs.Names.{Sort, constants, free, functions, mem, of_fun, syms, term_syms, term_vars, terms_syms, terms_vars, union}
use Rattle.definitions.specs.Truth.{Assign, Domain, Meaning, block, join, truth, val, vals}
use Rattle.definitions.specs.Prenex.{Subst, shade, sub, term_sub, terms_sub}
use Rattle.definitions.proofs.Laws.Bools.{by_cases, clash, or_false_left, or_false_right, or_left, or_right}
use Rattle.definitions.proofs.Laws.Sets.{mem_append, mem_filter, mem_head, mem_union}
use Rattle.definitions.proofs.Laws.Substitution.{mem_var}
use Rattle.definitions.specs.Laws.Symbols.{Alike}

module _ (D : Domain) (M N : Meaning D) where
  alike_left : (a b a' b' : List Name) → Alike D (a ++ b) (a' ++ b') M N → Alike D a a' M N
  alike_left a b a' b' h = record {
    on_con = λ n m. h.on_con n (mem_append n a b ∙ or_left (mem n a) (mem n b) m);
    on_fun = λ n m. h.on_fun n (mem_append n a' b' ∙ or_left (mem n a') (mem n b') m);
    on_rel = h.on_rel;
  }

  alike_right : (a b a' b' : List Name) → Alike D (a ++ b) (a' ++ b') M N → Alike D b b' M N
  alike_right a b a' b' h = record {
    on_con = λ n m. h.on_con n (mem_append n a b ∙ or_right (mem n a) (mem n b) m);
    on_fun = λ n m. h.on_fun n (mem_append n a' b' ∙ or_right (mem n a') (mem n b') m);
    on_rel = h.on_rel;
  }

  mutual
    unfolding val vals term_syms terms_syms

    val_alike : (t : Term) (ρ : Assign D) → Alike D (term_syms constants t) (term_syms functions t) M N → val D M ρ t ≡ val D N ρ t
    val_alike (var x) ρ h = refl
    val_alike (con c) ρ h = h.on_con c (mem_head c [])
    val_alike (app f ts) ρ h =
        ap₂ (λ g ds. g ds) (h.on_fun f (mem_head f (terms_syms functions ts))) (vals_alike ts ρ (alike_right [] (terms_syms constants ts) (f ∷ []) (terms_syms functions ts) h))

    vals_alike : (ts : Terms) (ρ : Assign D) → Alike D (terms_syms constants ts) (terms_syms functions ts) M N → vals D M ρ ts ≡ vals D N ρ ts
    vals_alike nil ρ h = refl
    vals_alike (cons t ts) ρ h =
        ap₂ (◌∷◌) (val_alike t ρ (alike_left (term_syms constants t) (terms_syms constants ts) (term_syms functions t) (terms_syms functions ts) h))
        (vals_alike ts ρ (alike_right (term_syms constants t) (terms_syms constants ts) (term_syms functions t) (terms_syms functions ts) h))

  pub truth_alike : (f : Formula) (ρ : Assign D) → Alike D (syms constants f) (syms functions f) M N → truth D M f ρ ≡ truth D N f ρ
  unfolding truth syms
  truth_alike top ρ h = refl
  truth_alike bot ρ h = refl
  truth_alike (pred p ts) ρ h = ap₂ (λ r ds. r ds) (h.on_rel p) (vals_alike ts ρ h)
  truth_alike (eq t u) ρ h =
      ap₂ D.equal (val_alike t ρ (alike_left (term_syms constants t) (term_syms constants u) (term_syms functions t) (term_syms functions u) h))
      (val_alike u ρ (alike_right (term_syms constants t) (term_syms constants u) (term_syms functions t) (term_syms functions u) h))
  truth_alike (neg f) ρ h = ap not (truth_alike f ρ h)
  truth_alike (bin o f g) ρ h =
      ap₂ (join o) (truth_alike f ρ (alike_left (syms constants f) (syms constants g) (syms functions f) (syms functions g) h))
      (truth_alike g ρ (alike_right (syms constants f) (syms constants g) (syms functions f) (syms functions g) h))
  truth_alike (blk q vs f) ρ h = ap (λ k. block D q vs k ρ) (fun_ext (λ σ. truth_alike f σ h))

both_false : (a b : Bool) → a ≡ false → b ≡ false → (a || b) ≡ false
both_false a b p q = rw p q

append_false : (x : Name) (a b : List Name) → mem x a ≡ false → mem x b ≡ false → mem x (a ++ b) ≡ false
append_false x a b p q = mem_append x a b ∙ both_false (mem x a) (mem x b) p q

from_append : (x : Name) (a b : List Name) → mem x (a ++ b) ≡ false → (mem x a ≡ false) × (mem x b ≡ false)
from_append x a b p =
    let e = sym (mem_append x a b) ∙ p in (or_false_left (mem x a) (mem x b) e, or_false_right (mem x a) (mem x b) e)

module _ (k : Sort) (n : Name) where
  mutual
    unfolding term_syms terms_syms term_sub terms_sub

    tsub_syms : (t : Term) (s : Subst) → mem n (term_syms k t) ≡ false → ((y : Name) → mem n (term_syms k (s y)) ≡ false) → mem n (term_syms k (term_sub s t)) ≡ false
    tsub_syms (var x) s h b = b x
    tsub_syms (con c) s h b = h
    tsub_syms (app f ts) s h b =
        let (p, q) = from_append n (of_fun k f) (terms_syms k ts) h in
        append_false n (of_fun k f) (terms_syms k (terms_sub s ts)) p (tssub_syms ts s q b)

    tssub_syms : (ts : Terms) (s : Subst) → mem n (terms_syms k ts) ≡ false → ((y : Name) → mem n (term_syms k (s y)) ≡ false) → mem n (terms_syms k (terms_sub s ts)) ≡ false
    tssub_syms nil s h b = h
    tssub_syms (cons t ts) s h b =
        let (p, q) = from_append n (term_syms k t) (terms_syms k ts) h in
        append_false n (term_syms k (term_sub s t)) (terms_syms k (terms_sub s ts)) (tsub_syms t s p b) (tssub_syms ts s q b)

  -- a symbol that neither the formula nor what is put in has
  pub sub_syms : (f : Formula) (s : Subst) → mem n (syms k f) ≡ false → ((y : Name) → mem n (term_syms k (s y)) ≡ false) → mem n (syms k (sub s f)) ≡ false
  unfolding syms sub mem term_syms
  sub_syms top s h b = refl
  sub_syms bot s h b = refl
  sub_syms (pred p ts) s h b = tssub_syms ts s h b
  sub_syms (eq t u) s h b =
      let (p, q) = from_append n (term_syms k t) (term_syms k u) h in
      append_false n (term_syms k (term_sub s t)) (term_syms k (term_sub s u)) (tsub_syms t s p b) (tsub_syms u s q b)
  sub_syms (neg f) s h b = sub_syms f s h b
  sub_syms (bin o f g) s h b =
      let (p, q) = from_append n (syms k f) (syms k g) h in
      append_false n (syms k (sub s f)) (syms k (sub s g)) (sub_syms f s p b) (sub_syms g s q b)
  sub_syms (blk q vs f) s h b = sub_syms f (shade vs s) h (λ y. by_cases (mem y vs) (λ t. rw t) (λ e. rw e (b y)))

union_false : (x : Name) (a b : List Name) → mem x a ≡ false → mem x b ≡ false → mem x (union a b) ≡ false
union_false x a b p q = mem_union x a b ∙ both_false (mem x a) (mem x b) p q

module _ (x : Name) where
  -- where no free variable is given a term that has it
  abbrev Missed : Subst → List Name → Type 0
  Missed s l = (y : Name) → mem y l ≡ true → mem x (term_vars (s y)) ≡ false

  missed_left : (s : Subst) (a b : List Name) → Missed s (union a b) → Missed s a
  missed_left s a b h y m = h y (mem_union y a b ∙ or_left (mem y a) (mem y b) m)

  missed_right : (s : Subst) (a b : List Name) → Missed s (union a b) → Missed s b
  missed_right s a b h y m = h y (mem_union y a b ∙ or_right (mem y a) (mem y b) m)

  mutual
    unfolding term_vars terms_vars term_sub terms_sub mem

    tsub_free : (t : Term) (s : Subst) → Missed s (term_vars t) → mem x (term_vars (term_sub s t)) ≡ false
    tsub_free (var y) s h = h y (mem_head y [])
    tsub_free (con c) s h = refl
    tsub_free (app f ts) s h = tssub_free ts s h

    tssub_free : (ts : Terms) (s : Subst) → Missed s (terms_vars ts) → mem x (terms_vars (terms_sub s ts)) ≡ false
    tssub_free nil s h = refl
    tssub_free (cons t ts) s h =
        union_false x (term_vars (term_sub s t)) (terms_vars (terms_sub s ts)) (tsub_free t s (missed_left s (term_vars t) (terms_vars ts) h)) (tssub_free ts s (missed_right s (term_vars t) (terms_vars ts) h))

  pub sub_free : (f : Formula) (s : Subst) → Missed s (free f) → mem x (free (sub s f)) ≡ false
  unfolding free sub mem
  sub_free top s h = refl
  sub_free bot s h = refl
  sub_free (pred p ts) s h = tssub_free ts s h
  sub_free (eq t u) s h =
      union_false x (term_vars (term_sub s t)) (term_vars (term_sub s u)) (tsub_free t s (missed_left s (term_vars t) (term_vars u) h)) (tsub_free u s (missed_right s (term_vars t) (term_vars u) h))
  sub_free (neg f) s h = sub_free f s h
  sub_free (bin o f g) s h =
      union_false x (free (sub s f)) (free (sub s g)) (sub_free f s (missed_left s (free f) (free g) h)) (sub_free g s (missed_right s (free f) (free g) h))
  sub_free (blk q vs f) s h =
      mem_filter x (λ y. not (mem y vs)) (free (sub (shade vs s) f))
      ∙ by_cases (mem x vs)
      (λ t. rw t (and-false (mem x (free (sub (shade vs s) f)))))
      (λ n. rw (sub_free f (shade vs s) (λ y m. by_cases (mem y vs)
      (λ t. rw t (by_cases (mem x (term_vars (var y))) (λ e. clash (ap (λ z. mem z vs) (mem_var y x e) ∙ t) n) (λ e. e)))
      (λ e. rw e (h y (mem_filter y (λ z. not (mem z vs)) (free f) ∙ rw (m, e)))))))
