-- What a call promises leaves one answer: two outcomes that meet the promise are the same; and the versions that document 01 shuts out
-- do not meet it: the one that refuses everything, the one with a constant result, the one that writes nothing, and the one that goes to
-- prenex and copies it onward.
use Rattle.std.specs.Prelude.{◌≡◌, refl, false, [], ◌∷◌, ℕ, replicate}
use Rattle.std.proofs.Common.{sym, ◌∙◌, ap, true≢false}
use Rattle.definitions.specs.Bytes.{Bytes, begins, behind_each, decimal, digits, number, same, skip, split, value}
use Rattle.definitions.specs.Syntax.{Formula, blk, bot, con, cons, count, depth, ex, nil, pred, term_depth, term_weight, terms_depth, terms_weight, top, var, weight}
use Rattle.definitions.specs.Limits.{Limits, house, published}
use Rattle.definitions.specs.Names.{bound, filter, free, mem, syms, term_syms, term_vars, term_widest, terms_syms, terms_vars, terms_widest, widest}
use Rattle.definitions.specs.RuleText.{behind, digit, hashed, is_name, letter, lines, nodes, term_nodes, terms_nodes, tick, word, written}
use Rattle.definitions.specs.Reading.{all_names, drop_terms, look_up, of_kind, parse, plant, read, scan, take_terms, trees}
use Rattle.definitions.specs.Truth.{every}
use Rattle.definitions.specs.Simplify.{is_bot, is_top, over_kept, simplify, tidy, turn}
use Rattle.definitions.specs.Negation.{nnf, push_negation}
use Rattle.definitions.specs.Prenex.{all_only, close, flips, fresh, fresh_from, is_prenex_form, is_skolem, longest, news, no_block, olds, outward, parted, pnf, pull, pull_right, renames, shades, sub, term_sub, terms_sub, to}
use Rattle.definitions.specs.Skolem.{among, as_vars, binders, constant_name, drawn_symbols, holds_hash, hash_free, put, skolem, skolemise}
use Rattle.definitions.specs.Order.{cmp_atom, cmp_list, cmp_literal, cmp_term, cmp_terms, insert, pos, rel, set_of}
use Rattle.definitions.specs.Clauses.{clauses, clauses_text, distribute, listing, literals_text, product, raw}
use Rattle.definitions.specs.Convert.{Conversion, Result, answer, as_clauses, convert, convert_tree, given, out_after, pnf_to_snf, refused, snf_to_cnf, snf_to_dnf, to_cnf, to_dnf, to_nnf, to_pnf, to_simplified, to_snf, too_large, too_long, too_many, work_after}
use Rattle.definitions.proofs.Laws.Sets.{same_refl}
use Rattle.definitions.proofs.Laws.Given.{given_inj, never_given}
use Rattle.definitions.specs.Laws.OneAnswer.{Meets, Outcome}

pub one_answer : (L : Limits) (c : Conversion) (text out work : Bytes) (r r' : Outcome) → Meets L c text out work r → Meets L c text out work r' → r ≡ r'
one_answer L c text out work r r' m m' =
    λ i. record { answer = (m.answers ∙ sym m'.answers) i; out = (m.lays ∙ sym m'.lays) i; work = (m.clears ∙ sym m'.clears) i }

-- Top and bottom, by each conversion; and "some louvre is open", whose prenex form is itself.
abbrev nothing_holds : Conversion → Bytes
nothing_holds to_simplified = written bot
nothing_holds to_nnf = written bot
nothing_holds to_pnf = written bot
nothing_holds to_snf = written bot
nothing_holds to_cnf = listing ([] ∷ [])
nothing_holds to_dnf = listing []
nothing_holds pnf_to_snf = written bot
nothing_holds snf_to_cnf = listing ([] ∷ [])
nothing_holds snf_to_dnf = listing []

abbrev all_holds : Conversion → Bytes
all_holds to_simplified = written top
all_holds to_nnf = written top
all_holds to_pnf = written top
all_holds to_snf = written top
all_holds to_cnf = listing []
all_holds to_dnf = listing ([] ∷ [])
all_holds pnf_to_snf = written top
all_holds snf_to_cnf = listing []
all_holds snf_to_dnf = listing ([] ∷ [])

abbrev some_louvre : Formula
some_louvre = blk ex ((120 ∷ []) ∷ []) (pred (80 ∷ []) (cons (var (120 ∷ [])) nil))

abbrev that_louvre : Formula
that_louvre = pred (80 ∷ []) (cons (con (constant_name 0)) nil)

abbrev room : Bytes
room = replicate 32 0

record Told (c : Conversion) : Type 0 where
  on_top : convert house c (written top) ≡ given (all_holds c)
  on_bot : convert house c (written bot) ≡ given (nothing_holds c)
  apart : same (all_holds c) (nothing_holds c) ≡ false
  laid : same (out_after house c (written top) room (published house)) room ≡ false

told : (c : Conversion) → Told c
unfolding all_names all_only among answer as_clauses as_vars begins behind behind_each binders bound clauses clauses_text close cmp_atom cmp_list cmp_literal cmp_term cmp_terms convert convert_tree count decimal depth digit digits distribute drawn_symbols drop_terms every filter flips free fresh fresh_from holds_hash hash_free hashed insert is_bot is_name is_prenex_form is_skolem is_top letter lines listing literals_text longest look_up mem news nnf no_block nodes number of_kind olds out_after outward over_kept parse parted plant pnf product pull pull_right push_negation put raw read renames same scan set_of shades simplify skip skolem skolemise split sub syms take_terms term_depth term_nodes term_sub term_syms term_vars term_weight term_widest terms_depth terms_nodes terms_sub terms_syms terms_vars terms_weight terms_widest tick tidy to too_large too_long too_many trees turn value weight widest word work_after written
told to_simplified = record { on_top = refl; on_bot = refl; apart = refl; laid = refl }
told to_nnf = record { on_top = refl; on_bot = refl; apart = refl; laid = refl }
told to_pnf = record { on_top = refl; on_bot = refl; apart = refl; laid = refl }
told to_snf = record { on_top = refl; on_bot = refl; apart = refl; laid = refl }
told to_cnf = record { on_top = refl; on_bot = refl; apart = refl; laid = refl }
told to_dnf = record { on_top = refl; on_bot = refl; apart = refl; laid = refl }
told pnf_to_snf = record { on_top = refl; on_bot = refl; apart = refl; laid = refl }
told snf_to_cnf = record { on_top = refl; on_bot = refl; apart = refl; laid = refl }
told snf_to_dnf = record { on_top = refl; on_bot = refl; apart = refl; laid = refl }

unequal : {s t : Bytes} → same s t ≡ false → s ≡ t → ⊥
unequal {s} {t} e p = true≢false (sym (same_refl t) ∙ ap (λ u. same u t) (sym p) ∙ e)

-- the version that refuses everything
pub not_all_refused : (c : Conversion) → ((text : Bytes) → (n : ℕ) × (p : ℕ) × (convert house c text ≡ refused n p)) → ⊥
not_all_refused c h = never_given (sym (h (written top)).2 ∙ (told c).on_top)

-- the one with a constant result
pub not_constant : (c : Conversion) (r : Result) → ((text : Bytes) → convert house c text ≡ r) → ⊥
not_constant c r h = unequal (told c).apart (given_inj (sym (told c).on_top ∙ h (written top) ∙ sym (h (written bot)) ∙ (told c).on_bot))

-- the one that writes nothing
pub not_silent : (c : Conversion) → ((text out : Bytes) → out_after house c text out (published house) ≡ out) → ⊥
not_silent c h = unequal (told c).laid (h (written top) room)

-- the one that goes to prenex and only copies it onward, as Skolem form or as clauses
record Copied : Type 0 where
  prenex : convert house to_pnf (written some_louvre) ≡ given (written some_louvre)
  skolem : convert house to_snf (written some_louvre) ≡ given (written that_louvre)
  conjunctive : convert house to_cnf (written some_louvre) ≡ given (listing ((pos (rel (80 ∷ []) (cons (con (constant_name 0)) nil)) ∷ []) ∷ []))
  disjunctive : convert house to_dnf (written some_louvre) ≡ given (listing ((pos (rel (80 ∷ []) (cons (con (constant_name 0)) nil)) ∷ []) ∷ []))
  skolem_apart : same (written that_louvre) (written some_louvre) ≡ false
  clauses_apart : same (listing ((pos (rel (80 ∷ []) (cons (con (constant_name 0)) nil)) ∷ []) ∷ [])) (written some_louvre) ≡ false

copied : Copied
unfolding all_names all_only among answer as_clauses as_vars begins behind behind_each binders bound clauses clauses_text close cmp_atom cmp_list cmp_literal cmp_term cmp_terms convert convert_tree count decimal depth digit digits distribute drawn_symbols drop_terms every filter flips free fresh fresh_from holds_hash hash_free hashed insert is_bot is_name is_prenex_form is_skolem is_top letter lines listing literals_text longest look_up mem news nnf no_block nodes number of_kind olds out_after outward over_kept parse parted plant pnf product pull pull_right push_negation put raw read renames same scan set_of shades simplify skip skolem skolemise split sub syms take_terms term_depth term_nodes term_sub term_syms term_vars term_weight term_widest terms_depth terms_nodes terms_sub terms_syms terms_vars terms_weight terms_widest tick tidy to too_large too_long too_many trees turn value weight widest word work_after written
copied = record { prenex = refl; skolem = refl; conjunctive = refl; disjunctive = refl; skolem_apart = refl; clauses_apart = refl }

abbrev Copies : Conversion → Type 0
Copies c = (text s : Bytes) → convert house to_pnf text ≡ given s → convert house c text ≡ given s

pub not_copied_to_snf : Copies to_snf → ⊥
not_copied_to_snf h = unequal copied.skolem_apart (given_inj (sym copied.skolem ∙ h _ _ copied.prenex))

pub not_copied_to_cnf : Copies to_cnf → ⊥
not_copied_to_cnf h = unequal copied.clauses_apart (given_inj (sym copied.conjunctive ∙ h _ _ copied.prenex))

pub not_copied_to_dnf : Copies to_dnf → ⊥
not_copied_to_dnf h = unequal copied.clauses_apart (given_inj (sym copied.disjunctive ∙ h _ _ copied.prenex))
