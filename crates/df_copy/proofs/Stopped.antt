-- At each moment of a copy that wrote all units, or a part of what follows them: what a stop leaves of the target.
use Rattle.std.{proofs.Common.{◌≡◌, ◌⊎◌, inl, inr, ℕ, ◌<◌, false, List, [], ◌∷◌, Option, Some, None, refl, sym, ◌∙◌, ap, subst, arith}, specs.Prelude.{slice_get}}
use Rattle.df_base.{specs.{Image.{Image, IsImage, blank}, Log.{IsLeft, IsLog, Log, Sync, add, now, settled}, Moments.{EachMoment, Passed, adds}}, proofs.Laws.{adds_extends, adds_on, blank_is_image}}
use Rattle.{df_disk.specs.{Told.{Told}, Adds.{AddsPart}}, df_layout.specs.declared.layout.Layout.{Layout}}
use Rattle.df_format.specs.{Message.{Message}, declared.superblock.SuperFields.{SuperFields}, Copies.{content_with}, SuperRules.{IsUsable}}
use Rattle.df_theory.{specs.{Chance.{InImages}, Copies.{Agree, IsSplit}, CopyPuts.{update_steps}, Device.{AreSteps, Format, NoChanceOf, units_log}, Rests.{IsCopy}, UnitLog.{UnitLog, same_place}, Units.{BlockPlace, Content, CopyPlace, CopyUnit, HeaderPlace, Place, PreparePlace, ReplyPlace, ReplyUnit, Units}, View.{View}}, proofs.Laws.{firm_units, moments, now_units, settled_law}}
use Rattle.df_theory.specs.UnitLog
use Rattle.df_units.{specs.{Bytes.{unit_at}, Meaning.{content_of, message_of}, Puts.{put_copies}}, proofs.Laws.{is_format}}
use Rattle.df_superblock.specs.Events.{update_events}
use Rattle.df_opening.{specs.Below.{State, format_of, restarted}, proofs.Laws.{shown_by, unit_after, after_join, now_adds}}
use Rattle.df_copy.{specs.{Stops.{AreSplit, LeavesCopy, StopsCopy}, Targets.{copy_events, front_events, front_steps, superblock_of, superblock_steps}, Views.{IsEmptyImage, ShowsCopy}}, proofs.{Afters.{update_other}, Holding.{nothing_shown, shown, shown_after}, HowFar.{units_distinct}, Sources.{IsSource}, Spares.{before_copies, spare_before}, Stages.{HasStage, left_by, stages}, UnderWay.{IsUnderWay, Leaves, update_leaves}, Untouched.{IsUntouched, all_split, log_on, no_copy, none_in, stops_part, untouched_begun, untouched_leaves, untouched_on, untouched_then}, Usables.{IsNamed, copy_usable, superblock_are_steps}, Written.{front_are_steps}}}

apart : (place : Place) → (IsCopy place → ⊥) → (n : ℕ) → same_place (CopyPlace n) place ≡ false
apart (CopyPlace m) other n = absurd (other tt)
apart (HeaderPlace k) other n = refl
apart (PreparePlace k) other n = refl
apart (ReplyPlace k) other n = refl
apart (BlockPlace k) other n = refl

module _ (layout : Layout)
    (s : State) (rs bs : List Message) (image : Units) (v : View) (is : IsNamed layout s rs bs) (source : IsSource s image v)
    (read : (k : ℕ) (u : Message) → slice_get rs k ≡ Some u → image (ReplyPlace k) ≡ Some (ReplyUnit (message_of u)))
    (from : Image) (w : View) where
  abbrev cluster : ℕ
  cluster = s.file.cluster

  abbrev fmt : Format
  fmt = format_of layout cluster

  abbrev f : SuperFields
  f = superblock_of layout s rs bs

  abbrev c : Content
  c = content_of (content_with f)

  usable : IsUsable f
  usable = copy_usable layout s rs bs is

  abbrev then : Units
  then = shown layout s rs bs image v is source read

  -- what shows the copy: all that was written, and two of the copies
  abbrev Suffices : Type 0
  Suffices = (target : Image) → IsImage target → ((place : Place) → (IsCopy place → ⊥) → unit_at layout cluster target place ≡ then place)
      → Agree (unit_at layout cluster target) c
      → ((n : ℕ) (d : Content) → n < 4 → unit_at layout cluster target (CopyPlace n) ≡ Some (CopyUnit d) → d ≡ c)
      → ShowsCopy layout s.file from w target

  module _ (suffices : Suffices) (o : Told) (empty : IsEmptyImage o.shown) where
    abbrev Left : Log → Type 0
    Left = LeavesCopy layout s.file from w

    abbrev start : Log
    start = (restarted o).log

    start_is : o.shown ≡ blank
    start_is = (nothing_shown layout cluster o.shown empty).0

    -- all but the superblock is written
    abbrev written : Log
    written = adds (front_events layout s rs bs) start

    abbrev durable : Log
    durable = add Sync written

    is_log : IsLog start
    is_log = record { start = subst IsImage (sym start_is) blank_is_image; events = tt }

    front_are : AreSteps fmt (front_events layout s rs bs) (front_steps layout s rs bs)
    front_are = front_are_steps layout s rs bs is.writable

    written_log : IsLog written
    written_log = log_on fmt (front_events layout s rs bs) (front_steps layout s rs bs) start is_log front_are

    durable_log : IsLog durable
    durable_log = record { start = written_log.start; events = written_log.events }

    before_is : adds (before_copies layout s rs bs) start ≡ durable
    before_is = adds_on (front_events layout s rs bs) (Sync ∷ []) start

    untouched : IsUntouched durable
    untouched = subst IsUntouched
        before_is (untouched_on (before_copies layout s rs bs) start (spare_before layout s rs bs) (untouched_begun o empty))

    -- ---- its units

    shown_now : (place : Place) → unit_at layout cluster (now written) place ≡ unit_after (front_steps layout s rs bs) place None
    shown_now place = ap (λ (i : Image). unit_at layout cluster i place) (now_adds (front_events layout s rs bs) start)
        ∙ shown_by layout cluster (front_events layout s rs bs) (front_steps layout s rs bs) o.shown front_are is_log.start place
        ∙ ap (unit_after (front_steps layout s rs bs) place) ((nothing_shown layout cluster o.shown empty).1 place)

    same_now : (place : Place) → (IsCopy place → ⊥) → unit_at layout cluster (now written) place ≡ then place
    same_now place other =
        shown_now place ∙ sym (update_other f place (unit_after (front_steps layout s rs bs) place None) (apart place other))
        ∙ sym (after_join (front_steps layout s rs bs) (superblock_steps layout s rs bs) place None)
        ∙ shown_after layout s rs bs image v is source read place

    abbrev units : UnitLog
    units = units_log fmt durable

    units_now : (place : Place) → UnitLog.now units place ≡ unit_at layout cluster (now written) place
    units_now place = λ i. now_units fmt written.start written.events i place

    under_way : IsUnderWay c then 0 units
    under_way = record {
      dry = λ place. refl;
      first = λ n below inside. absurd (omega (arith, below));
      later = λ n above inside. units_now (CopyPlace n) ∙ no_copy layout cluster (now written) untouched.shown n inside;
      same = λ place other. units_now place ∙ same_now place other;
      pool = λ n x inside at. elim at [
        | inl old ↦ absurd (none_in layout cluster (settled durable)
            untouched.durable n x inside (subst (λ (l : List Units). InImages l (CopyPlace n) x) (settled_law fmt durable) old))
        | inr none ↦ absurd none
      ];
      early = λ few. subst AreSplit (sym (settled_law fmt durable)) (all_split layout cluster (settled durable) untouched.durable);
    }

    -- ---- the moments

    -- no two copies agree, and none did in what was durable before; or it shows the copy
    Decides : Log → Type 0
    Decides log = (target : Image) → IsLeft log target → NoChanceOf fmt log target
        → (IsSplit (unit_at layout cluster target) × AreSplit (UnitLog.settled (units_log fmt log))) ⊎ ShowsCopy layout s.file from w target

    gives : (log : Log) → IsLog log → Leaves c then (units_log fmt log) → Decides log
    unfolding Decides
    gives log whole leaves target left chance =
        elim (leaves (unit_at layout cluster target) (firm_units fmt (is_format layout cluster) log target left.kept) chance) [
          | inl split ↦ inl split
          | inr both ↦ inr (suffices target left.whole both.0.same both.1 both.0.only)
        ]

    at_stage : (log : Log) → Decides log → HasStage f usable log → Left log
    unfolding Decides
    at_stage log decides stage target left chance = let decided = decides target left chance in record {
      is = left_by f usable layout s.file from w log target left (elim decided [ inl split ↦ inl split.0 | inr shows ↦ inr shows ]) stage;
      early = λ split. elim decided [ inl early ↦ early.1 | inr shows ↦ absurd (split shows.view.checkpoint.content shows.found.chosen.agreed) ];
      distinct = units_distinct layout cluster log target chance;
    }

    abbrev exit : Log
    exit = adds (update_events f) durable

    update_are : AreSteps fmt (update_events f) (update_steps (put_copies f))
    update_are = superblock_are_steps layout s rs bs is

    decided : EachMoment durable exit Decides
    decided = moments fmt (Leaves c then) Decides gives
        (update_events f) (update_steps (put_copies f)) durable durable_log update_are (update_leaves c then (put_copies f) units under_way)

    behind_sync : Passed durable exit Left
    behind_sync = let staged = stages f usable durable (λ n from inside. (untouched.firm n inside, untouched.shown n inside)) in
        record { grew = adds_extends (update_events f) durable; moments = λ log moment. at_stage log (decided log moment) (staged.moments log moment) }

    all_moments : Passed start exit Left
    all_moments = untouched_then Left (untouched_leaves layout s.file from w)
        (before_copies layout s rs bs) start exit (spare_before layout s rs bs) (untouched_begun o empty)
        (rw (sym before_is) at behind_sync)

    exit_is : exit ≡ adds (copy_events layout s rs bs) start
    exit_is = sym (adds_on (front_events layout s rs bs) (Sync ∷ update_events f) start)

    pub part_stops : (new : Option Told) → AddsPart (copy_events layout s rs bs) (Some o) new → StopsCopy layout s.file from w o new
    part_stops new part = stops_part layout s.file from w o new (copy_events layout s rs bs) part (rw exit_is at all_moments.moments)
