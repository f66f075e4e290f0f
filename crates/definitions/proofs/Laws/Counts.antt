-- The raw counts, which refusal 8 looks at, are those of the raw clauses that the distribution makes: their number, and the number of their
-- literals together. Nothing is counted that is not made, and sorting only merges.
use Rattle.std.specs.Prelude.{◌≡◌, refl, List, [], ◌∷◌, ◌++◌, map, length}
use Rattle.std.proofs.Common.{◌∙◌, ap, ap₂, arith, length-append}
use Prim.Native.Nat.{◌+◌, ◌*◌, ◌≤◌, Ordering}
use Rattle.std.proofs.lemmas.List.{length-map}
use Rattle.definitions.specs.Syntax.{Op, and, or, imp, iff, Quant, all, ex, Formula, top, bot, pred, eq, neg, bin, blk}
use Rattle.definitions.specs.Order.{Clause, cmp_literal, cmp_clause, place, insert, set_of}
use Rattle.definitions.specs.Clauses.{product, combine, opposite, distribute, clauses, raw_of, added, multiplied, raw_combine, raw_opposite, raw}
use Rattle.definitions.proofs.Laws.Sorted.{set_of_length}
use Rattle.definitions.specs.Laws.Counts.{counted, total}

total_append : (a b : List Clause) → total (a ++ b) ≡ total a + total b
unfolding total
total_append [] b = omega arith
total_append (c ∷ a) b = omega (arith, total_append a b)

total_joined : (c : Clause) (b : List Clause) → total (map (λ d. c ++ d) b) ≡ length c * length b + total b
unfolding total
total_joined c [] = omega arith
total_joined c (d ∷ b) = omega (arith, length-append c d, total_joined c b)

product_length : (a b : List Clause) → length (product a b) ≡ length a * length b
unfolding product
product_length [] b = omega arith
product_length (c ∷ a) b = omega (arith, length-append (map (λ d. c ++ d) b) (product a b), length-map b (λ d. c ++ d), product_length a b)

product_total : (a b : List Clause) → total (product a b) ≡ total a * length b + total b * length a
unfolding product total
product_total [] b = omega arith
product_total (c ∷ a) b = omega (arith, total_append (map (λ d. c ++ d) b) (product a b), total_joined c b, product_total a b)

-- joining clauses joins their counts
counted_append : (a b : List Clause) → counted (a ++ b) ≡ added (counted a) (counted b)
counted_append a b = ap₂ raw_of (length-append a b) (total_append a b)

counted_product : (a b : List Clause) → counted (product a b) ≡ multiplied (counted a) (counted b)
counted_product a b = ap₂ raw_of (product_length a b) (product_total a b)

counted_combine : (q : Quant) (o : Op) (a b : List Clause) → counted (combine q o a b) ≡ raw_combine q o (counted a) (counted b)
unfolding total
counted_combine all and a b = counted_append a b
counted_combine all or a b = counted_product a b
counted_combine all imp a b = refl
counted_combine all iff a b = refl
counted_combine ex and a b = counted_product a b
counted_combine ex or a b = counted_append a b
counted_combine ex imp a b = refl
counted_combine ex iff a b = refl

counted_constant : (q : Quant) → (counted (distribute q top) ≡ raw q top) × (counted (distribute q bot) ≡ raw q bot)
unfolding total distribute raw
counted_constant all = (refl, refl)
counted_constant ex = (refl, refl)

counted_opposite : (f : Formula) → counted (opposite f) ≡ raw_opposite f
unfolding total
counted_opposite top = refl
counted_opposite bot = refl
counted_opposite (pred p ts) = refl
counted_opposite (eq t u) = refl
counted_opposite (neg f) = refl
counted_opposite (bin o f g) = refl
counted_opposite (blk q vs f) = refl

-- the raw counts of a formula are the counts of its raw clauses
pub distribute_counted : (q : Quant) (f : Formula) → counted (distribute q f) ≡ raw q f
unfolding distribute raw total
distribute_counted q top = (counted_constant q).0
distribute_counted q bot = (counted_constant q).1
distribute_counted q (pred p ts) = refl
distribute_counted q (eq t u) = refl
distribute_counted q (neg f) = counted_opposite f
distribute_counted q (bin o f g) =
    counted_combine q o (distribute q f) (distribute q g) ∙ ap₂ (raw_combine q o) (distribute_counted q f) (distribute_counted q g)
distribute_counted q (blk r vs f) = refl

pub distribute_length : (q : Quant) (f : Formula) → length (distribute q f) ≡ (raw q f).clauses
distribute_length q f = ap (λ r. r.clauses) (distribute_counted q f)

pub distribute_total : (q : Quant) (f : Formula) → total (distribute q f) ≡ (raw q f).literals
distribute_total q f = ap (λ r. r.literals) (distribute_counted q f)

-- sorting and merging give no more clauses, and each with no more literals
pub clauses_length : (q : Quant) (f : Formula) → length (clauses q f) ≤ (raw q f).clauses
unfolding clauses
clauses_length q f =
    let made = map (set_of cmp_literal) (distribute q f) in
    omega (arith, set_of_length cmp_clause made, length-map (distribute q f) (set_of cmp_literal), distribute_length q f)

insert_total : (c : Clause) (cs : List Clause) → total (insert cmp_clause c cs) ≤ length c + total cs
unfolding insert total
insert_total c [] = omega arith
insert_total c (d ∷ cs) = go (cmp_clause c d) (insert_total c cs)
  where
    go : (o : Ordering) → total (insert cmp_clause c cs) ≤ length c + total cs
        → total (place cmp_clause o c d cs (insert cmp_clause c cs)) ≤ length c + (length d + total cs)
    go Ordering.lt h = omega arith
    go Ordering.eq h = omega arith
    go Ordering.gt h = omega arith

sorted_total : (cs : List Clause) → total (set_of cmp_clause (map (set_of cmp_literal) cs)) ≤ total cs
unfolding set_of total
sorted_total [] = omega arith
sorted_total (c ∷ cs) =
    let made = set_of cmp_clause (map (set_of cmp_literal) cs) in
    omega (arith, insert_total (set_of cmp_literal c) made, set_of_length cmp_literal c, sorted_total cs)

pub clauses_total : (q : Quant) (f : Formula) → total (clauses q f) ≤ (raw q f).literals
unfolding clauses
clauses_total q f = omega (arith, sorted_total (distribute q f), distribute_total q f)
