-- What the fields of a record of stays say, and what is true of them.
use Rattle.std.specs.Prelude.{◌<◌, ◌≡◌, length}
use Rattle.stays.specs.Latest.{Latest, Keeps}
use Rattle.stays.specs.Ring.{ring_from}
use Rattle.stays.specs.declared.Record.TheInside.{Inside}

abbrev pub latest_in : Inside → Latest
latest_in a =
    record {
      states = a.states;
      window = a.window;
      stays = ring_from a.window a.next a.places 0 a.kept;
      counts = a.counts;
      hours = a.hours;
    }

pub record Sound (a : Inside) : Type 0 where
  pub keeps : Keeps (latest_in a)
  pub next_max : a.next < a.window
  pub places_size : length a.places ≡ 256
