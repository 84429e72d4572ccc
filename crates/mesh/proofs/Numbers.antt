-- What stops a reading has not the number 0.
use mathlib.Core.Logic.{◌≢◌}
use Rattle.rules.specs.declared.refusals.Stop.{Stop}
use Rattle.rules.specs.Refusals.{accepted}
use Rattle.rules.specs.Told.{stop_number}
use Rattle.rules.proofs.Branches.Numbers.{fault_numbered}
use Rattle.rules.proofs.Branches.Refused.{not_accepted}

pub stop-not_accepted : (stop : Stop) → stop_number stop ≢ accepted
stop-not_accepted (Stop.Form f) = (fault_numbered f).not_0
stop-not_accepted (Stop.Meaning r) = not_accepted r
