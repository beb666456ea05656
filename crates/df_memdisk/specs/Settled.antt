-- The events that a stop can't touch.
use Rattle.std.specs.Prelude.{List, [], ◌∷◌}
use Rattle.df_base.specs.Log.{Event, Write, Sync, Stop}

-- those up to the last sync or stop, that one included, the newest first
abbrev pub durable : List Event → List Event
durable [] = []
durable ((Write at bytes) ∷ es) = durable es
durable (Sync ∷ es) = Sync ∷ es
durable ((Stop cs) ∷ es) = Stop cs ∷ es
