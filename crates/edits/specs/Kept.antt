-- What a trial takes off a vehicle that it touches: its rests. Assumes nothing.
use Rattle.std.specs.Prelude.{[], ◌∷◌}
use Rattle.rules.specs.Plan.{serve, empty, lunch, Round}

-- the tasks without rests
unfoldable pub kept : Round → Round
kept [] = []
kept (serve k ∷ tasks) = serve k ∷ kept tasks
kept (empty x ∷ tasks) = empty x ∷ kept tasks
kept (lunch ∷ tasks) = kept tasks
