-- The invariant: the table has the atoms of the words from `at` on, where each is an atom's spelling, and the terms that lead there end at `end`.
use native.Mathlib.Omega.{arith}
use Prim.Native.Nat.{◌+◌, ◌-◌, ◌≤◌}
use mathlib.Core.Path.{◌≡◌, refl, sym, ◌∙◌}
use mathlib.Core.Bool.{true, cond}
use lib.ListN.{length, get_or}
use Rattle.definitions.specs.Order.{insert}
use Rattle.text.specs.Tables.{words_of}
use Rattle.text.specs.Words.{kind_of_word}
use Rattle.clauses.specs.Laying.{atomic}
use Rattle.clauses.specs.Ranks.{cmp_parts, part_word}
use Rattle.clauses.specs.Search.{Falls}
use Rattle.clauses.proofs.Collecting.{none_leads, none_found, leads_more, lead_fits, found_more}
use Rattle.clauses.proofs.atoms.Matrix.collect.Goals.{then-atomic, else-atomic}
use Rattle.clauses.proofs.atoms.Matrix.collect.Goals as goal

pub loop-at-init : goal.loop-at-init
loop-at-init c =
    let a = c.args in let S = a.self.words.now in (
      omega arith,
      omega arith,
      omega arith,
      refl,
      none_leads S,
      λ found h. none_found S _ a.atoms.now.nodes,
    )

pub loop-at-preserved : goal.loop-at-preserved
loop-at-preserved c =
    let l = c.loop-at in let a = c.args in let S = a.self.words.now in
    let e = c.end_before-end.ensures ∙ leads_more S l.at (omega arith) (omega arith) l.end l.invariant.4 in
    let cmp = cmp_parts a.self.spellings.text.now a.self.spellings.made.now S in
    let is_new = atomic (kind_of_word (get_or S (l.at - 1) 0)) in
    let new = part_word (l.at - 1) (l.end - (l.at - 1)) in
    let more : c.if-atomic.atoms.used ≤ l.atoms.used + 1 =
    elim c.if-atomic.branch [ then-atomic w ↦ rw w.atoms-is (omega (arith, w.add_atom.ensures.safe.0)) | else-atomic w ↦ rw w.atoms-is (omega arith) ] in
    let size : length c.if-atomic.atoms.nodes ≡ length l.atoms.nodes =
    elim c.if-atomic.branch [ then-atomic w ↦ rw w.atoms-is w.add_atom.ensures.safe.1 | else-atomic w ↦ rw w.atoms-is refl ] in
    let put : (is_new ≡ true → Falls (cmp new) (words_of l.atoms))
    → words_of c.if-atomic.atoms ≡ cond is_new (insert cmp new (words_of l.atoms)) (words_of l.atoms) =
    elim c.if-atomic.branch [
      | then-atomic w ↦ λ h. let t : is_new ≡ true = sym c.atomic.ensures ∙ w.if-atomic.true in rw (w.atoms-is, t) (w.add_atom.ensures.does (h t))
      | else-atomic w ↦ λ h. rw (w.atoms-is, sym c.atomic.ensures ∙ w.if-atomic.false)
    ] in (
      omega (arith, e),
      omega (arith, e, lead_fits S (l.at - 1) (omega arith)),
      omega arith,
      size ∙ l.invariant.3,
      e,
      found_more S l.at (omega arith) (omega arith) a.self.spellings.text.now a.self.spellings.made.now
          l.end _ _ l.atoms.nodes _ l.invariant.4 l.invariant.5 put,
    )
