-- `row_count` meets its contract. Assumes nothing.
use Rattle.std.proofs.Common.{sym, ◌∙◌}
use Rattle.btree.specs.Header.{view_of}
use Rattle.extents.specs.Reader.{view}
use Rattle.listing.proofs.Rows.{rows-counted}
use Rattle.listing.proofs.row_count.Goals as goal

pub returns-clause-whole : goal.returns-clause-whole
unfolding view_of
returns-clause-whole c s = c.be32.ensures ∙ sym (rows-counted (view c.args.image.now) s.tree s.totals)
