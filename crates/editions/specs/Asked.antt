-- What an extents overflow file is asked for.
-- Assumes nothing.
use Rattle.std.specs.Prelude.{◌≡◌, pos}
use Rattle.frame.specs.declared.form.Form.{Form}
use Rattle.extent_keys.specs.declared.key.Key.{Key}
use Rattle.extent_keys.specs.Key.{Lawful, dec_lawful, key_at, compared, rank}
use Rattle.reader.specs.Query.{Query}

-- a key: "The fork bytes 00 and FF are lawful."; "A record has the asked key when the two keys compare as 0."
abbrev pub of_key : Form → Key → Query
of_key form k =
    record {
      rank = rank k;
      Lawful = Lawful k.fork;
      dec_lawful = dec_lawful k.fork;
      IsAt = λ img at. compared (key_at form img at) k ≡ pos 0;
    }
