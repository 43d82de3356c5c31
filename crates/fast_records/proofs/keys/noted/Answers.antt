-- `keys::noted` meets its contract. Assumes nothing.
use Rattle.fast_records.proofs.Numbers.{noted-clean}
use Rattle.fast_records.proofs.keys.noted.Goals as goal

pub returns : goal.returns
returns c = noted-clean c.args.notes c.args.key
