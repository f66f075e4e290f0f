-- The conversion's promise, in numbers.
use Rattle.exports.proofs.Told.{told}
use Rattle.exports.proofs.call.Goals as goal

pub returns : goal.returns
returns c = told c.convert-answer.ensures c.number_of.ensures c.place_of.ensures
