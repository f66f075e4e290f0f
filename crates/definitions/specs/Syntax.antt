-- Terms and formulae of first-order logic, as document 01 has them; weight and depth.
use Rattle.std.specs.Prelude.{List, ℕ, suc, ◌+◌, max, length}
use Rattle.definitions.specs.Bytes.{Bytes}

abbrev pub Name : Type 0
Name = Bytes

mutual
  pub data Term : Type 0 where
    var : Name → Term
    con : Name → Term
    app : Name → Terms → Term

  pub data Terms : Type 0 where
    nil : Terms
    cons : Term → Terms → Terms

pub data Op : Type 0 where
  and or imp iff : Op

pub data Quant : Type 0 where
  all ex : Quant

-- `bin` is a binary node, `blk` an exists or forall block over variables
pub data Formula : Type 0 where
  top bot : Formula
  pred : Name → Terms → Formula
  eq : Term → Term → Formula
  neg : Formula → Formula
  bin : Op → Formula → Formula → Formula
  blk : Quant → List Name → Formula → Formula

unfoldable pub count : Terms → ℕ
count nil = 0
count (cons t ts) = suc (count ts)

-- weight: one for each node, and one more for each variable in a block
unfoldable mutual
  pub term_weight : Term → ℕ
  term_weight (var x) = 1
  term_weight (con c) = 1
  term_weight (app f ts) = 1 + terms_weight ts

  pub terms_weight : Terms → ℕ
  terms_weight nil = 0
  terms_weight (cons t ts) = term_weight t + terms_weight ts

unfoldable pub weight : Formula → ℕ
weight top = 1
weight bot = 1
weight (pred p ts) = 1 + terms_weight ts
weight (eq t u) = 1 + (term_weight t + term_weight u)
weight (neg f) = 1 + weight f
weight (bin o f g) = 1 + (weight f + weight g)
weight (blk q vs f) = 1 + length vs + weight f

-- depth: that of the root is 1, terms included
unfoldable mutual
  pub term_depth : Term → ℕ
  term_depth (var x) = 1
  term_depth (con c) = 1
  term_depth (app f ts) = 1 + terms_depth ts

  pub terms_depth : Terms → ℕ
  terms_depth nil = 0
  terms_depth (cons t ts) = max (term_depth t) (terms_depth ts)

unfoldable pub depth : Formula → ℕ
depth top = 1
depth bot = 1
depth (pred p ts) = 1 + terms_depth ts
depth (eq t u) = 1 + max (term_depth t) (term_depth u)
depth (neg f) = 1 + depth f
depth (bin o f g) = 1 + max (depth f) (depth g)
depth (blk q vs f) = 1 + depth f
