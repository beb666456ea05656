-- The types of the recovery table in the words of the theory.
use Rattle.df_format.specs.Spelling.{IsCheck}
use Rattle.df_theory.specs.Cases
use Rattle.df_units.specs.Meaning.{number_of}
use Rattle.df_cases.specs.{declared.seen.Seen.{Seen}, declared.seen.Seen.TheVariants.{Nothing, Old, Now, Far}, declared.cases.Decision.{Decision}}
use Rattle.df_cases.specs.declared.cases.Decision.TheVariants.{Behind, Take, Lost, Empty}

-- what a ring shows, a checksum being the number that its bytes are
abbrev pub seen_of : Seen → Cases.Seen
seen_of Nothing = Cases.Nothing
seen_of Old = Cases.Old
seen_of (Now check) = Cases.Current (number_of check)
seen_of Far = Cases.Far

-- what is decided of it
abbrev pub decision_of : Decision → Cases.Decision
decision_of Behind = Cases.Behind
decision_of (Take mend) = Cases.Take mend
decision_of Lost = Cases.Lost
decision_of (Empty mend) = Cases.Empty mend

-- a checksum that is seen has sixteen bytes
abbrev pub HasCheck : Seen → Type 0
HasCheck (Now check) = IsCheck check
HasCheck seen = Unit {0}
