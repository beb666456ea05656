-- What an open finds after damage before any number of opens, and how a history of sectors goes on.
use Rattle.{std.proofs.Common.{◌≡◌, inr, List, [], ◌∷◌, ◌++◌, refl, sym, ◌∙◌, ap, subst}, df_model.specs.Work.{opened}}
use Rattle.df_base.{specs.{Image.{Image, changed, written}, Log.{Event, Log, Stop, Sync, Write}, Moments.{Extends}}, proofs.Laws.{extends_add}}
use Rattle.df_base.specs.Log as logs
use Rattle.df_layout.{specs.declared.layout.Layout.{Layout}, proofs.Laws.{same_layout}}
use Rattle.df_format.specs.{Copies.{Content, content_at}, SuperRules.{IsSuper}, declared.superblock.SuperFields.{SuperFields}}
use Rattle.df_quorum.specs.Quorum
use Rattle.df_theory.{specs.{Device.{Format, stands, units_log, units_of}, Found.{IsFound}, Grown.{Grown}, Trailer.{IsReference}, UnitLog.{Stopped, Synced, UnitEvent, Wrote}, Units.{Units}, View.{PassesTests, View}}, proofs.Laws.{changed_kept, disk_stop_law, firm_units, now_units}}
use Rattle.df_history.{specs.{Awakened.{IsLaterMoment}, Histories.{IsLivedMoment, MayHurtCopies, MayStart}, OpenLaws.{StartsWith}}, proofs.Laws.{begins_law, choice_stays_law, first_grown_law, found_since_law, grown_lived_law, rest_lived_law, synced_settled}}
use Rattle.df_recovery.{specs.{Below.{parse_of, DataFile, Represents, State, shape}, Found.{IsLayoutShownAs}, Surveys.{IsOpenedAs}}, proofs.Laws.{same_file}}
use Rattle.df_units.{specs.{Bytes.{unit_at}, Format.{format_of}, Meaning.{content_of, layout_of}, Superblocks.{AreFieldsOf}}, proofs.Laws.{choice_chosen, is_format, of_places, passing_is_usable, shown_checks}}
use Rattle.df_damage.specs.Histories.{BegunGoesOn, FindsSince, FirstGoesOn, FoundWasSince, HasLived, IsLivedDisk, LayoutStays, MayReopen, RaisedGoesOn, StoppedGoesOn, unit_log_in, units_logs}

-- ---- what an open finds

module _ (file : DataFile) (log : Log) (older : List Log) (image : Image) (may : MayReopen file log older image) where
  -- the history of units may start its next log there
  starts : MayStart (unit_log_in file (logs.add Sync log)) (units_logs file older) (unit_at file.layout file.cluster image)
  starts = record {
    settled_is = synced_settled (unit_log_in file log);
    chance = may.chance;
    copies = rw ((now_units (format_of file.layout file.cluster) log.start (Sync ∷ log.events))) may.copies;
  }

  -- a log is restarted there
  pub begun_on : (view : View) → IsFound (shape file) (unit_at file.layout file.cluster image) view
      → IsLivedMoment (shape file) (units_logs file (logs.add Sync log ∷ older)) (unit_log_in file (record { start = image; events = [] }))
  begun_on view found = (begins_law (shape file)
      (unit_log_in file (logs.add Sync log)) (units_logs file older) (unit_at file.layout file.cluster image) view may.lived starts
      (of_places file.layout file.cluster file.named (parse_of (layout_of file.layout)) image may.whole) found).1

  -- the superblock that is chosen is the file's
  chosen : (c : Content) → Quorum.IsChosenContent (content_at image) c
      → StartsWith (shape file) (unit_log_in file (logs.add Sync log)) (unit_at file.layout file.cluster image) (content_of c)
  chosen c is = choice_stays_law (shape file) (unit_log_in file (logs.add Sync log)) (units_logs file older)
      (unit_at file.layout file.cluster image) (content_of c) may.lived starts (choice_chosen file.layout file.cluster image c may.whole is)

  rules : (c : Content) → Quorum.IsChosenContent (content_at image) c → AreFieldsOf file.layout file.cluster c.fields × IsSuper c.fields
  rules c is = let from = chosen c is in let tests : PassesTests (shape file) (content_of c) =
      subst (PassesTests (shape file)) (sym from.content) from.holds.bears.sound.checkpoint.tests in
      let reference : IsReference (layout_of file.layout) (content_of c) =
      subst (IsReference (layout_of file.layout)) (sym from.content) from.holds.bears.sound.checkpoint.trailer.reference in
      passing_is_usable file.version file.layout file.cluster file.named (parse_of (layout_of file.layout))
      c (inr may.version) (shown_checks image is.agreed.first c may.whole is.agreed.at_first) tests reference

  -- its layout is the file's
  pub own_layout : (layout : Layout) → IsLayoutShownAs 2 image layout → layout ≡ file.layout
  own_layout layout shown = let of = (rules shown.super.content shown.super.chosen).0 in let is = shown.numbers in
      let fields = sym shown.super.fields in same_layout layout file.layout (is.slots ∙ ap (λ (g : SuperFields). g.slots) fields ∙ of.slots)
      (is.message_size ∙ ap (λ (g : SuperFields). g.message_size) fields ∙ of.message_size)
      (is.clients ∙ ap (λ (g : SuperFields). g.clients) fields ∙ of.clients)
      (is.block_size ∙ ap (λ (g : SuperFields). g.block_size) fields ∙ of.block_size)
      (is.blocks ∙ ap (λ (g : SuperFields). g.blocks) fields ∙ of.blocks)

  -- so what is opened is this file
  opened_file : (s : State) → IsOpenedAs 2 file.layout image s → s.file ≡ file
  opened_file s is =
      same_file s.file file is.of.layout_is (sym is.has.cluster ∙ ap (λ (g : SuperFields). g.cluster) (sym is.has.super.fields)
      ∙ (rules is.has.super.content is.has.super.chosen).0.cluster_is) (is.of.version_is ∙ sym may.version)

  pub found_since : (s : State) → IsOpenedAs 2 file.layout image s → FindsSince file log older image s
  found_since s is = let same = opened_file s is in
      let found : IsFound (shape file) (unit_at file.layout file.cluster image) is.view = rw same at is.found in
      let from = choice_stays_law (shape file) (unit_log_in file (logs.add Sync log))
      (units_logs file older) (unit_at file.layout file.cluster image) is.view.checkpoint.content may.lived starts found.chosen in record {
        of = same;
        found = is.view;
        is_found = found;
        stands = subst (λ (x : DataFile). Represents s (opened (shape x) (unit_at file.layout x.cluster image) is.view)) same is.stands;
        since = found_since_law (shape file) (unit_log_in file (logs.add Sync log))
            (units_logs file older) (unit_at file.layout file.cluster image) is.view may.lived starts found;
        begins = record { whole = may.whole; found = found; clean = from.clean is.view refl; distinct = from.distinct };
      }

pub found_was_since : FoundWasSince
found_was_since file log older image s may is = found_since file log older image may s is

pub lived_layout : LayoutStays
lived_layout file log older image may layout shown = own_layout file log older image may layout shown

-- ---- a later moment of a log of sectors is one of its log of units

-- the events of units that some events are, after others
new_units : (f : Format) (start : Image) (old new : List Event)
    → (us : List UnitEvent) × (units_of f start (new ++ old) ≡ us ++ units_of f start old)
new_units f start old [] = ([], refl)
new_units f start old ((Write at bytes) ∷ new) = let rest = new_units f start old new in
    let e : UnitEvent = Wrote (f.touches at bytes) (stands f at bytes) (f.unit_at (written at bytes (logs.now_of start (new ++ old)))) in
    (e ∷ rest.0, ap (λ (us : List UnitEvent). e ∷ us) rest.1)
new_units f start old (Sync ∷ new) = let rest = new_units f start old new in
    (Synced ∷ rest.0, ap (λ (us : List UnitEvent). Synced ∷ us) rest.1)
new_units f start old ((Stop changes) ∷ new) = let rest = new_units f start old new in
    let e : UnitEvent = Stopped (f.unit_at (changed changes (logs.now_of start (new ++ old)))) in
    (e ∷ rest.0, ap (λ (us : List UnitEvent). e ∷ us) rest.1)

later_units : (f : Format) (later log : Log) → Extends later log → IsLaterMoment (units_log f later) (units_log f log)
later_units f later log (new, grew, same) = let rest = new_units f log.start log.events new in
    (rest.0, (λ i. units_of f (same i) (grew i)) ∙ rest.1, ap f.unit_at same)

-- ---- how a history goes on

-- what a moment of units is, a moment of sectors is
pub moment_on_disk : (file : DataFile) (older : List Log) (log : Log)
    → IsLivedMoment (shape file) (units_logs file older) (unit_log_in file log) → IsLivedDisk file older log
moment_on_disk file older log moment = record {
  lived = moment.lived;
  synced = moment.synced;
  stopped = λ changes loose chance. let image : Image = changed changes (logs.now log) in
      moment.stopped (unit_at file.layout file.cluster image) (firm_units (format_of file.layout file.cluster) (is_format
      file.layout file.cluster) log image (λ sector firm. changed_kept log.events changes (logs.now log) sector loose firm)) chance;
}

pub first_goes_on : FirstGoesOn
first_goes_on file log safe begins = record {
  lived = first_grown_law (shape file) (unit_log_in file log) safe.grown begins;
  synced = first_grown_law (shape file) (unit_log_in file (logs.add Sync log)) safe.synced begins;
  stopped = λ changes loose chance.
      first_grown_law (shape file) (unit_log_in file (logs.add (Stop changes) log)) (safe.stopped changes loose chance) begins;
}

pub begun_goes_on : BegunGoesOn
begun_goes_on file view log older image may found =
    moment_on_disk file (logs.add Sync log ∷ older) (record { start = image; events = [] }) (begun_on file log older image may view found)

pub raised_goes_on : RaisedGoesOn
raised_goes_on file log later before older raised lived grew safe = let f = format_of file.layout file.cluster in
    let on : (l : Log) → Extends l log → Grown (shape file) (unit_log_in file l) → HasLived file (l ∷ before ∷ older) =
    λ l more grown. ((grown_lived_law (shape file) (unit_log_in file log) (unit_log_in file l) (unit_log_in file before) (units_logs file older) raised lived (later_units f l log more) grown).begun, lived) in
    record {
      lived = on later grew safe.grown;
      synced = on (logs.add Sync later) (extends_add Sync later log grew) safe.synced;
      stopped = λ changes loose chance.
          on (logs.add (Stop changes) later) (extends_add (Stop changes) later log grew) (safe.stopped changes loose chance);
    }

pub stopped_goes_on : StoppedGoesOn
stopped_goes_on file view log before older changes safe moment loose chance held =
    moment_on_disk file (before ∷ older) (logs.add (Stop changes) log)
    (rest_lived_law (shape file) (unit_log_in file (logs.add (Stop changes) log))
    (unit_log_in file before) (units_logs file older) view (moment.stopped changes loose chance)
    (disk_stop_law (format_of file.layout file.cluster) (shape file) view log changes safe loose chance held))
