-- What a session and a stop leave is a disk that may be hurt.
use Rattle.{std.proofs.Common.{subst}, df_base.specs.{Image.{changed}, Log.{IsLog, Stop}}, df_recovery.specs.Below.{shape}}
use Rattle.df_base.specs.Log as logs
use Rattle.df_theory.{specs.{Device.{units_log}, Holds.{Holds, IsWhole}, Units.{Units}}, proofs.Laws.{disk_stop_law, found_law, now_units, rests_safe, safe_disk_law}}
use Rattle.{df_units.{specs.Format.{format_of}, proofs.Laws.{is_format}}, df_damage.specs.Disks.{StoppedMayBeHurt, TidyMayBeHurt}}

pub tidy_may_be_hurt : TidyMayBeHurt
tidy_may_be_hurt version file view t known of is_log empty tidy image chance = let fmt = format_of file.layout file.cluster in
    let sh = shape file in let units = now_units fmt t.log.start t.log.events in
    let whole : IsWhole sh (fmt.unit_at (logs.now t.log)) view = rw units at tidy.whole in (
      record {
        known = known;
        version_is = of;
        safe = safe_disk_law fmt sh t.log (is_format file.layout file.cluster) is_log (rests_safe sh (units_log fmt t.log) view tidy.rests);
        empty = empty;
        found = (found_law sh (fmt.unit_at (logs.now t.log)) view).0 (rw units at tidy.rests.holds);
        whole = image;
        no_chance = chance;
      },
      record { content = view.checkpoint.content; copies = whole.copies },
      whole,
    )

pub stopped_may_be_hurt : StoppedMayBeHurt
stopped_may_be_hurt version file view log changes shown known of safe empty loose chance held image later =
    let fmt = format_of file.layout file.cluster in let sh = shape file in
    let is_log : IsLog (logs.add (Stop changes) log) = record { start = safe.is_log.start; events = (loose, safe.is_log.events) } in
    record {
      known = known;
      version_is = of;
      safe = safe_disk_law fmt sh (logs.add (Stop changes) log) (is_format file.layout file.cluster) is_log
          (rests_safe sh (units_log fmt (logs.add (Stop changes) log)) view (disk_stop_law fmt sh view log changes safe loose chance held));
      empty = empty;
      found = (found_law sh (fmt.unit_at (changed changes (logs.now log))) view).0 held;
      whole = image;
      no_chance = later;
    }
