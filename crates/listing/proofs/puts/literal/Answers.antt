-- The sign's line, and behind it the atom's text.
use Rattle.writer.specs.PutLaws.{puts_both}
use Rattle.listing.specs.Texts.{sign_line, literal_text}
use Rattle.listing.proofs.puts.literal.Goals as goal

pub returns : goal.returns
unfolding literal_text
returns c =
    puts_both {s = sign_line c.args.number} c.requires (rw c.sign.ensures.0 at c.put_run-signed.ensures)
    (rw c.atom.ensures at c.put_nodes.ensures)
