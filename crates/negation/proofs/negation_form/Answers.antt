-- `negation::negation_form` meets its contract: a run over the words, into a table with none.
use Rattle.std.proofs.Common.{arith}
use Rattle.std.proofs.lemmas.Result.{MatchResult-from_err}
use Rattle.definitions.specs.Negation.{nnf}
use Rattle.text.specs.Weights.{words_weight}
use Rattle.negation.proofs.negation_form.Goals as goal

pub returns-in_err-nnf : goal.returns-in_err-nnf
returns-in_err-nnf c =
    record {
      room = c.in_err-nnf.ensures.safe.1;
      size = c.in_err-nnf.ensures.safe.2;
      form = λ T M f rest h. MatchResult-from_err _ _ _ c.from_residual.ensures.0
          (λ _. omega (arith, words_weight (nnf f), (c.in_err-nnf.ensures.does T M f).ends rest h));
    }

pub returns : goal.returns
returns c =
    let s = c.in_ok-nnf.ensures.safe in record {
      room = s.1;
      size = s.2;
      form = λ T M f rest h. let e = ((c.in_ok-nnf.ensures.does T M f).ends rest h).1 in
          (omega (arith, words_weight (nnf f), e.used, s.1), record { room = s.1; words = (e.words (omega arith)).1 });
    }
