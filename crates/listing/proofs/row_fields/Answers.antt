-- `row_fields` meets its contract. Assumes nothing.
use Rattle.frame.specs.Form.{key_size}
use Rattle.extent_keys.specs.Key.{key_at}
use Rattle.listing.specs.Rows.{fields_of}
use Rattle.listing.proofs.row_fields.Goals as goal

pub returns : goal.returns
unfolding fields_of key_at key_size
returns c =
    rw (
      c.be32.ensures,
      c.byte_at.ensures.0,
      c.be16.ensures.0,
      c.be16-2.ensures.0,
      c.be16-3.ensures.0,
      c.be16-4.ensures.0,
      c.be16-5.ensures.0,
      c.be16-6.ensures.0,
      c.be16-7.ensures.0,
      c.record_at-key.ensures.0,
      c.of_hfs.ensures,
    )
