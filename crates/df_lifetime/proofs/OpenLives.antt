-- A life begins at the end of any open that answered, with the calls that a program made on it.
use Rattle.{std.proofs.Common.{◌∙◌, [], refl}, df_disk.specs.Told.{Told}, df_session.specs.{Anew.{begun_after}, Links.{CallsMade}}}
use Rattle.df_lifetime.{specs.{Hurt.{at_end}, Life.{EveryOpenBegins, ToItsEnd}, Life.Life.{Opened}}, proofs.HurtSessions.{served_adds, shows_begun}}

pub every_open_begins : EveryOpenBegins
every_open_begins file first t n served shows = let c : CallsMade = served.made in let found = served.found in
    let end : Told = at_end [] c (begun_after found.mending.events t) in (
      end,
      Opened file first t end served.layout found c ToItsEnd shows served.keep refl,
      shows_begun found.mending.events c t (served.after ∙ found.mending.told) (served_adds t n served) n served.to,
    )
