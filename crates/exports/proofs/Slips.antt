-- A slip in a reply.
use mathlib.Core.Path.{◌≡◌, refl}
use Rattle.std.specs.Prelude.{Ok}
use Rattle.words.specs.Kinds as k
use Rattle.change.specs.declared.Recovery.TheVariants.{Recovered}
use Rattle.exports.specs.Replies.{plain, recovery_reply}

-- events and pairs change places: a recovery of 5 pairs has 14 events
pub events_first : recovery_reply (Ok (Recovered 5 14)) ≡ plain k.recovered 14 5
events_first = refl
