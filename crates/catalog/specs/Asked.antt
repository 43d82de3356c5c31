-- What a catalog is asked for.
-- Assumes nothing.
use Rattle.std.specs.Prelude.{◌≡◌, pos, length}
use Rattle.std.proofs.Math.Decide.{dec_le}
use Rattle.catalog_keys.specs.Key.{Key, longest_name, IsShort, key_at, compared, rank}
use Rattle.reader.specs.Query.{Query}

-- a key: "An asked name above 31 bytes is 11."; "A record has the asked key when the two keys compare as 0."
abbrev pub of_key : Key → Query
of_key k =
    record {
      rank = rank k;
      Lawful = IsShort k;
      dec_lawful = dec_le (length k.name) longest_name;
      IsAt = λ img at. compared (key_at img at) k ≡ pos 0;
    }
