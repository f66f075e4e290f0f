-- Document 01's starred pairs, as one list under a single statement, from rule text to result text.
use Rattle.std.specs.Prelude.{◌≡◌, refl, [], ◌∷◌, ◌++◌}
use Rattle.definitions.specs.Bytes.{begins, behind_each, decimal, digits, number, same, skip, split, value}
use Rattle.definitions.specs.Syntax.{app, blk, count, depth, ex, term_depth, term_weight, terms_depth, terms_weight, var, weight}
use Rattle.definitions.specs.Limits.{house}
use Rattle.definitions.specs.Names.{bound, filter, free, mem, syms, term_syms, term_vars, term_widest, terms_syms, terms_vars, terms_widest, widest}
use Rattle.definitions.specs.RuleText.{behind, digit, hashed, is_name, letter, lines, nodes, term_nodes, terms_nodes, tick, word, written}
use Rattle.definitions.specs.Reading.{all_names, drop_terms, look_up, of_kind, parse, plant, read, scan, take_terms, trees}
use Rattle.definitions.specs.Truth.{every}
use Rattle.definitions.specs.Simplify.{is_bot, is_top, over_kept, simplify, tidy, turn}
use Rattle.definitions.specs.Negation.{nnf, push_negation}
use Rattle.definitions.specs.Prenex.{all_only, close, flips, fresh, fresh_from, is_prenex_form, is_skolem, longest, news, no_block, olds, outward, parted, pnf, pull, pull_right, renames, shades, sub, term_sub, terms_sub, to}
use Rattle.definitions.specs.Skolem.{among, as_vars, binders, drawn_symbols, function_name, holds_hash, hash_free, put, skolem, skolemise}
use Rattle.definitions.specs.Order.{cmp_atom, cmp_list, cmp_literal, cmp_term, cmp_terms, insert, pos, rel, set_of}
use Rattle.definitions.specs.Clauses.{clauses, clauses_text, distribute, listing, literals_text, product, raw}
use Rattle.definitions.specs.Convert.{answer, as_clauses, convert, convert_tree, out_after, to_cnf, too_large, too_long, too_many, work_after}
use Rattle.definitions.specs.Program.{conversion_of, conversion_word, cut, do_word, done_word, field_line, good_label, parts, program, rule_output, rule_word, rules_output, without_end}
use Rattle.definitions.specs.Laws.Pairs.{Hold, P, Sorts, holds, one, starred, two, x, y}

pub starred_hold : Hold starred
unfolding Hold holds starred all_names all_only among answer as_clauses as_vars begins behind behind_each binders bound clauses clauses_text close cmp_atom cmp_list cmp_literal cmp_term cmp_terms convert convert_tree count decimal depth digit digits distribute drawn_symbols drop_terms every filter flips free fresh fresh_from holds_hash hash_free hashed insert is_bot is_name is_prenex_form is_skolem is_top letter lines listing literals_text longest look_up mem news nnf no_block nodes number of_kind olds out_after outward over_kept parse parted plant pnf product pull pull_right push_negation put raw read renames same scan set_of shades simplify skip skolem skolemise split sub syms take_terms term_depth term_nodes term_sub term_syms term_vars term_weight term_widest terms_depth terms_nodes terms_sub terms_syms terms_vars terms_weight terms_widest tick tidy to too_large too_long too_many trees turn value weight widest word work_after written
starred_hold = (refl, (refl, (refl, (refl, (refl, (refl, (refl, (refl, (refl, (refl, (refl, (refl, (refl, (refl, (refl, tt)))))))))))))))

-- Document 01's whole case of the file program, byte for byte.
pub whole_case : program house
    (field_line do_word (conversion_word to_cnf) ++ (field_line rule_word (114 ∷ 49 ∷ []) ++ written (blk ex (y ∷ []) (P (two (var x) (var y))))))
    ≡ field_line done_word (conversion_word to_cnf) ++ (field_line rule_word (114 ∷ 49 ∷ []) ++ listing ((pos (rel (80 ∷ []) (two (var x) (app (function_name 0) (one (var x))))) ∷ []) ∷ []))
unfolding all_names all_only among answer as_clauses as_vars begins behind behind_each binders bound clauses clauses_text close cmp_atom cmp_list cmp_literal cmp_term cmp_terms convert convert_tree count decimal depth digit digits distribute drawn_symbols drop_terms every filter flips free fresh fresh_from holds_hash hash_free hashed insert is_bot is_name is_prenex_form is_skolem is_top letter lines listing literals_text longest look_up mem news nnf no_block nodes number of_kind olds out_after outward over_kept parse parted plant pnf product pull pull_right push_negation put raw read renames same scan set_of shades simplify skip skolem skolemise split sub syms take_terms term_depth term_nodes term_sub term_syms term_vars term_weight term_widest terms_depth terms_nodes terms_sub terms_syms terms_vars terms_weight terms_widest tick tidy to too_large too_long too_many trees turn value weight widest word work_after written conversion_of cut good_label parts program rule_output rules_output without_end
whole_case = refl

pub sorts : Sorts
unfolding cmp_atom cmp_list cmp_term cmp_terms decimal digits
sorts = record { by_bytes = refl; backtick_late = refl; terms_first = refl; variable_constant = refl; constant_application = refl; predicate_equation = refl }
