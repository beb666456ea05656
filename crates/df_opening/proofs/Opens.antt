-- What an open leaves: which device calls it makes, what stays settled, and what an open finds in an image.
use Rattle.std.{proofs.{Common.{◌≡◌, ◌+◌, ℕ, List, [], ◌∷◌, map, Bool, true, false, Option, Some, None, refl, sym, ◌∙◌, ap, subst, arith, length}, lemmas.List.{length-map}}, specs.Prelude.{Ok}}
use Rattle.df_base.{specs.{Image.{Image, IsImage}, Log.{Event, Sync}, Moments.{EachMoment}}, proofs.Laws.{now_is_image}}
use Rattle.df_base.specs.Log
use Rattle.{df_disk.specs.{Told.{Told, did}, Adds.{AddsPart, after_all}}, df_trailer.{specs.Text.{parse_of}, proofs.Laws.{codec}}}
use Rattle.df_damage.{specs.{Anew.{told_after}, Below.{DataFile, Represents, State, boot_fields, shape, spelling}, Opening.{HasSuperAs}, Found.{IsLayoutShownAs}, Surveying.{TellsSurveyAs}, Surveys.{IsOpenedAs}}, proofs.Laws.{added_is_told}}
use Rattle.{df_layout.specs.declared.{damage.Mend.{Mend}, layout.Layout.{Layout}}, df_superblock.specs.Steps.{repaired}}
use Rattle.df_format.specs.{Copies.{Content}, declared.header.Header.{Header}, declared.superblock.SuperFields.{SuperFields}}
use Rattle.df_theory.specs.Units
use Rattle.df_theory.{specs.{Units.{BlockPlace}, Device.{AreSteps}, Found.{IsFound}, MakingLaws.{all_puts}, MendLaws.{copy_steps, header_steps}, Runs.{Syncs}, View.{View}, CopyPuts.{update_steps}}, proofs.Laws.{one_found_law}}
use Rattle.df_units.{specs.{Bytes.{unit_at}, Meaning.{layout_of, number_of}, Puts.{put_copies}}, proofs.Laws.{all_added, chosen_choice, of_places, part_moments, by_second, shown_checks}}
use Rattle.df_model.{specs.{Codec.{IsCodec}, Work.{Work, opened}, Sense.{IsVersionTwo}}, proofs.Laws.{found_law}}
use Rattle.df_opening.{proofs.{Fronts.{Front, front_of}, StepShows.{stays_firm, unit_after, unwritten, after_join}}, specs.{Sparing.{AreSettled}, Survey.{Survey}, Surveying.{IsMendable, TellsMends, TellsSurvey}, Following.{MayOpen}, Mending.{IsPlanned, first_state, mending_steps, sector_puts, sectors_of, raising_events}, Keeping.{Firm, Keeps, format}, Opened.{AreRaisingTo}, Raising.{opening_events, opening_steps}}}

-- ---- what an open leaves

-- how its trailer is spelled is a codec of the file
pub codec_of : (file : DataFile) → IsCodec (shape file) (spelling file)
codec_of file = codec (shape file) (omega (arith, file.layout.clients_within.1)) (omega (arith, file.layout.block_size_within)) refl

-- a file of version 2 names a checksum at each place
pub second_found : (file : DataFile) (image : Image) (view : View)
    → IsImage image → file.version ≡ 2 → IsFound (shape file) (unit_at file.layout file.cluster image) view → IsVersionTwo (shape file) view
second_found file image view whole second found =
    let choice = chosen_choice file.layout file.cluster image view.checkpoint.content whole found.chosen in let c : Content = choice.0 in
    let version : c.fields.version ≡ 2 = ap (λ (x : Units.Content). x.version) choice.1 ∙ found.checkpoint.tests.version ∙ second in
    let size : length c.fields.reply_checksums ≡ 64 =
    (shown_checks image choice.2.agreed.second c whole choice.2.agreed.at_second).reply_checksums.size in record {
      version = second;
      places = omega (arith, file.layout.clients_within.1);
      names = ap (λ (x : Units.Content). length x.reply_checksums) (sym choice.1) ∙ ap length
          (by_second c.fields (map number_of c.fields.reply_checksums) [] version) ∙ length-map c.fields.reply_checksums number_of ∙ size;
    }

-- ---- no step of a mending puts a block

puts_aside : (a : ℕ) (table : List Header) (ks : List ℕ) → unit_after (all_puts (sector_puts table ks)) (BlockPlace a) None ≡ None
puts_aside a table [] = refl
puts_aside a table (k ∷ ks) = puts_aside a table ks

headers_aside : (a : ℕ) (table : List Header) (ks : List ℕ) → unit_after (header_steps (sector_puts table ks)) (BlockPlace a) None ≡ None
headers_aside a table [] = refl
headers_aside a table (k ∷ ks) =
    after_join (all_puts (sector_puts table (k ∷ ks))) (Syncs ∷ []) (BlockPlace a) None ∙ puts_aside a table (k ∷ ks)

copies_aside : (a number : ℕ) (f : SuperFields) (members : List Bool)
    → unit_after (copy_steps (repaired f number members)) (BlockPlace a) None ≡ None
copies_aside a number f [] = refl
copies_aside a number f (true ∷ members) = copies_aside a (number + 1) f members
copies_aside a number f (false ∷ members) = copies_aside a (number + 1) f members

mending_aside : (file : DataFile) (table : List Header) (mends : List Mend) (f : SuperFields) (members : List Bool) (a : ℕ)
    → unit_after (mending_steps file.layout table mends f members) (BlockPlace a) None ≡ None
mending_aside file table mends f members a = let headers = header_steps (sector_puts table (sectors_of file.layout mends)) in
    let copies = copy_steps (repaired f 0 members) in after_join headers copies (BlockPlace a) None
    ∙ ap (unit_after copies (BlockPlace a)) (headers_aside a table (sectors_of file.layout mends)) ∙ copies_aside a 0 f members

-- nor one of the boot update
pub opening_aside : (s : Survey) (a : ℕ) → unit_after (opening_steps s) (BlockPlace a) None ≡ None
opening_aside s a = let first = mending_steps s.state.file.layout s.state.headers s.mends s.state.fields s.chosen.members in
    let update = update_steps (put_copies (boot_fields s.state)) in after_join first update (BlockPlace a) None
    ∙ ap (unit_after update (BlockPlace a)) (mending_aside s.state.file s.state.headers s.mends s.state.fields s.chosen.members a)

-- so after the barrier none is loose
pub open_settles : (s : Survey) (base : Told) (w : Work) → AreSteps (format s.state.file) (opening_events s) (opening_steps s)
    → AreSettled s.state.file (told_after (opening_events s) (did Sync base)).log w
open_settles s base w steps = let es = opening_events s in let n : Told = told_after es (did Sync base) in
    subst (λ (l : Log.Log). AreSettled s.state.file l w) (sym (all_added es (did Sync base) n (sym (added_is_told es (did Sync base)))))
    (record {
      firm = λ a sector durable here. stays_firm es (did Sync base).log sector refl
          (unwritten s.state.file.layout s.state.file.cluster es (opening_steps s) steps (BlockPlace a) (opening_aside s a) sector here);
    })

-- the answer of the survey, of what the disk shows, by a log that shows the same
pub survey_opened : (layout : Layout) (t base : Told) (s : State) → base.shown ≡ t.shown → (view : View)
    → MayOpen s.file view base → s.file.layout ≡ layout → TellsSurvey layout (Some t) (Ok s) → IsOpenedAs 2 s.file.layout base.shown s
survey_opened layout t base s same view may of answer = let shown : base.shown ≡ Log.now base.log = λ i sector. may.honest.shows sector i in
    let whole : IsImage t.shown =
    subst IsImage (sym shown ∙ same) (now_is_image base.log.start base.log.events may.safe.is_log.start may.safe.is_log.events) in
    subst (λ (m : Image). IsOpenedAs 2 s.file.layout m s) (sym same) (subst (λ (l : Layout). IsOpenedAs 2 l t.shown s) (sym of) (answer whole))

-- what is planned of what one log shows is planned of another one that shows the same
pub planned_same : (file : DataFile) (table : List Header) (mends : List Mend) (f : SuperFields) (members : List Bool) (t base : Told)
    → base.shown ≡ t.shown → IsPlanned file table mends f members t → IsPlanned file table mends f members base
planned_same file table mends f members t base same plan =
    let there : IsPlanned file table mends f members (record { log = base.log; shown = t.shown }) = record {
      scan = plan.scan;
      copies = plan.copies;
      super = plan.super;
      members_are = plan.members_are;
      start = plan.start;
      scanned = plan.scanned;
      top = plan.top;
      top_is = plan.top_is;
      planned = plan.planned;
    } in subst (λ (m : Image). IsPlanned file table mends f members (record { log = base.log; shown = m })) (sym same) there

-- ---- what an open finds in an image, whatever was done to it

-- the state stands for what the machine begins with, which makes sense
pub found_keeps : (s : State) (image : Image) (view : View)
    → IsImage image → IsOpenedAs 2 s.file.layout image s → IsFound (shape s.file) (unit_at s.file.layout s.file.cluster image) view
    → Keeps Firm s (opened (shape s.file) (unit_at s.file.layout s.file.cluster image) view) None
found_keeps s image view whole is found = let sh = shape s.file in let units = unit_at s.file.layout s.file.cluster image in
    let one : is.view ≡ view = one_found_law sh units is.view view is.found found in (
      found_law sh (spelling s.file) units view (codec_of s.file) (second_found s.file image view whole is.of.version_is found)
          (of_places s.file.layout s.file.cluster s.file.named (parse_of (layout_of s.file.layout)) image whole) found,
      subst (λ (v : View). Represents s (opened sh units v)) one is.stands,
    )

-- so by a log that shows what was shown, and by which the file may be opened
pub stands_over : (layout : Layout) (t base : Told) (s : State) → base.shown ≡ t.shown → (view : View)
    → MayOpen s.file view base → s.file.layout ≡ layout → TellsSurvey layout (Some t) (Ok s) → Represents s (first_state s.file base view)
stands_over layout t base s same view may of answer = let units = unit_at s.file.layout s.file.cluster in
    let shown : base.shown ≡ Log.now base.log = λ i sector. may.honest.shows sector i in let whole : IsImage base.shown =
    subst IsImage (sym shown) (now_is_image base.log.start base.log.events may.safe.is_log.start may.safe.is_log.events) in
    (found_keeps s base.shown view whole (survey_opened layout t base s same view may of answer)
    (subst (λ (m : Image). IsFound (shape s.file) (units m) view) (sym shown) may.found)).1

-- and in what was shown itself
pub stands_anew : (layout : Layout) (t : Told) (s : State) (view : View) → s.file.layout ≡ layout → TellsSurvey layout (Some t) (Ok s) →
    IsImage t.shown → IsFound (shape s.file) (unit_at s.file.layout s.file.cluster t.shown) view → Represents s (first_state s.file t view)
stands_anew layout t s view of answer whole found =
    (found_keeps s t.shown view whole (subst (λ (l : Layout). IsOpenedAs 2 l t.shown s) (sym of) (answer whole)) found).1

-- its superblock is one of version 2, and names its layout
pub super_shown : (layout : Layout) (image : Image) (s : State) → IsOpenedAs 2 layout image s → HasSuperAs 2 image s.fields
super_shown layout image s is = subst (λ (version : ℕ). HasSuperAs version image s.fields) is.of.version_is is.has.super

pub layout_shown : (layout : Layout) (image : Image) (s : State) → IsOpenedAs 2 layout image s → IsLayoutShownAs 2 image s.file.layout
layout_shown layout image s is = record { fields = s.fields; super = super_shown layout image s is; numbers = is.has.layout }

-- ---- which device calls a mending is

-- what was found is mended as it is planned
pub own_raising : (version : ℕ) (d : SuperFields) (layout : Layout) (told : Option Told) (t : Told) (s : Survey) → told ≡ Some t
    → s.state.file.layout ≡ layout → TellsSurveyAs version layout told (Ok s.state) → TellsMends layout told s → IsImage t.shown
    → AreRaisingTo version d t s.state (raising_events s.state.file.layout s.state.headers s.mends s.state.fields s.chosen.members d)
own_raising version d layout told t s is of answer tells whole = record {
  opened = subst (λ (l : Layout). IsOpenedAs version l t.shown s.state)
      (sym of) ((subst (λ (o : Option Told). TellsSurveyAs version layout o (Ok s.state)) is answer) whole);
  chosen = s.chosen;
  mends = s.mends;
  planned = subst (λ (l : Layout). IsMendable l t.shown s) (sym of) ((subst (λ (o : Option Told). TellsMends layout o s) is tells) whole);
  are = refl;
}

-- ---- where the disk failed

-- a front of the mending was added
pub mend_stops : (es : List Event) (old new : Option Told) (t : Told) → old ≡ Some t → AddsPart es old new → Front es (Some t) new
mend_stops es old new t is part = front_of es (Some t) new (subst (λ (o : Option Told). AddsPart es o new) is part)

-- and its moments are moments of the whole one
pub front_moments : (es : List Event) (base : Told) (part : List Event) → ((b : Option Told) → AddsPart es b (after_all part b))
    → (P : Log.Log → Type 0) → EachMoment base.log (told_after es base).log P → EachMoment base.log (told_after part base).log P
front_moments es base part again P each =
    part_moments es base (told_after part base) P (subst (AddsPart es (Some base)) (added_is_told part base) (again (Some base)))
    (subst (λ (l : Log.Log). EachMoment base.log l P) (all_added es base (told_after es base) (sym (added_is_told es base))) each)
