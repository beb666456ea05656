-- What is found of a file is the answer to an open.
use Rattle.std.{specs.{Prelude.{Ok, map}, List.{range_with_len}}, proofs.Common.{◌≡◌, ℕ, ◌+◌, ◌-◌, List, length, refl, sym, ◌∙◌, ap, subst}}
use Rattle.{df_format.specs.{Copies.{content_with}, declared.superblock.SuperFields.{SuperFields}}, df_checkpoint.specs.Reads.{blocks_read}}
use Rattle.{df_sessions.specs.declared.session.Session.{Session}, df_journal.specs.{Tail.{EndsAt}, declared.table.Start.{Start}}}
use Rattle.df_theory.specs.Units
use Rattle.df_theory.{specs.{Found.{IsFound}, View.{Checkpoint, View, head}, Opens.{BootSpent as NoBoot, Damaged as Damages, Opens, Refusal, Refused}}, proofs.Laws.{one_found_law}}
use Rattle.df_model.specs.{declared.errors.OpenError.TheVariants.{NotFormatted, NoQuorum, Version, BadField, LayoutDiffers, Damaged, DiskFault, BootSpent}, Memory.{Memory}}
use Rattle.{df_units.specs.{Bytes.{unit_at}, Meaning.{content_of, layout_of, number_of}}, df_base.specs.Image.{Image}}
use Rattle.df_recovery.{specs.{Checkpoints.{Base, base_of}, Waiting.{waiting_sum}, Finding.{AnswersFinding, EachOpens, HasHeaders, IsOfFile, IsReadFrom, KeepsTraces, KeptIsAnswer, Read, RefusedIsAnswer, StateKeepsView, StoresTo, base_with}, declared.finding.Traces.{Traces}, Surveys.{HasFile, SurveysAs, class_there}}, proofs.{KeptReplies.{stored_kept}, FilesRead.{file_is_read}, OpenedStates.{state_is_opened}, Waits.{waiting_known}}}
use Rattle.{df_rooms.specs.{State.{State, shape}, declared.file.DataFile.{DataFile}}, df_disk.specs.Told.{Told}}
use Rattle.df_layout.specs.declared.layout.Layout.{Layout}

-- of what was read the theory says so of the file's own image
opens_here : (t : Told) (file : DataFile) (read : Read) (base : Base) (r : Refusal)
    → IsOfFile t file read base → EachOpens read r → Opens (shape file) (unit_at file.layout file.cluster t.shown) (Refused r)
opens_here t file read base r is opens = opens (shape file) (unit_at file.layout file.cluster t.shown)
    (base_of read.found.content is.checkpoint.chain is.checkpoint.parts) (file_is_read t file read base is)

pub refused_is_answer : RefusedIsAnswer
refused_is_answer t file read base (Damaged place class) is refused = record {
  file = file;
  fields = read.found.content;
  has = is.has;
  of = record { version_is = refl; layout_is = refl };
  at = refused.at;
  at_is = sym refused.place_is;
  class_is = refused.class_is t is.scanned ∙ (λ i. class_there (is.layout i) (is.cluster i) t.shown refused.at);
  opens = opens_here t file read base (Damages refused.at) is refused.opens;
}
refused_is_answer t file read base BootSpent is refused = record {
  file = file;
  fields = read.found.content;
  has = is.has;
  of = record { version_is = refl; layout_is = refl };
  opens = opens_here t file read base NoBoot is refused;
}
refused_is_answer t file read base NotFormatted is refused = absurd refused
refused_is_answer t file read base (NoQuorum classes) is refused = absurd refused
refused_is_answer t file read base (Version found) is refused = absurd refused
refused_is_answer t file read base (BadField field value) is refused = absurd refused
refused_is_answer t file read base (LayoutDiffers reserved found) is refused = absurd refused
refused_is_answer t file read base DiskFault is refused = absurd refused

module _ (t : Told) (read : Read) (traces : Traces) (after : List Session) (s : State) (is : IsOfFile t s.file read (base_with
    s read.sessions)) (kept : KeepsTraces read traces after s) (headers : HasHeaders (unit_at s.file.layout s.file.cluster t.shown) s) where
  abbrev image : Units.Units
  image = unit_at s.file.layout s.file.cluster t.shown

  abbrev base : Checkpoint
  base = base_of read.found.content is.checkpoint.chain is.checkpoint.parts

  from : IsReadFrom (shape s.file)
      (unit_at s.file.layout s.file.cluster t.shown) (base_of read.found.content is.checkpoint.chain is.checkpoint.parts) read
  from = file_is_read t s.file read (base_with s read.sessions) is

  -- the checksums that wait are the machine's
  waits : map number_of s.waiting ≡ map (waiting_sum s image) (range_with_len (s.replies + 1) (s.head - s.replies))
  waits =
      let start : read.slots.start.op ≡ s.fields.op = ap (λ (x : Start). x.op) is.start ∙ ap (λ (f : SuperFields). f.op) (sym kept.fields) in
      ap (map number_of) kept.waiting
      ∙ waiting_known s image read.slots (range_with_len (s.replies + 1) (s.head - s.replies)) start from.tells.shows

  -- what is kept of the traces is what a state keeps of the view
  keeps_view : (v : View) → v.checkpoint ≡ base → EndsAt v.checkpoint v.tail traces.tail after
      → v.replies ≡ traces.replies → IsFound (shape s.file) image v → StateKeepsView (shape s.file) image v s
  keeps_view v same ends replies found = record {
    content = ap (λ (b : Checkpoint). b.content) same ∙ ap (λ (f : SuperFields). content_of (content_with f)) (sym kept.fields);
    root_is = is.checkpoint.root_is ∙ ap (λ (b : Checkpoint). b.parts.root) (sym same);
    blocks_are = is.checkpoint.blocks_are ∙ ap (λ (b : Checkpoint). blocks_read (layout_of s.file.layout) b.parts b.chain) (sym same);
    head_is = kept.head_is ∙ ends.op;
    head_checksum = ap number_of kept.head_checksum ∙ ends.checksum;
    replies = kept.replies ∙ sym replies;
    sessions_are = kept.stored.requests ∙ ends.sessions_are;
    stored = stored_kept image v read.replies after s.table.sessions from.shows found.stored ends.sessions_are kept.unstored
        (rw (sym replies) at kept.stored);
    count = kept.count;
    headers = headers v found;
    waiting = waits;
    starts = kept.starts;
  }

  pub kept_answer : AnswersFinding read (Ok traces) after → SurveysAs s.file.version s.file.layout t.shown (Ok s)
  kept_answer answers = let first = answers (shape s.file) image base from in
      let ends : EndsAt first.view.checkpoint first.view.tail traces.tail after = rw first.checkpoint first.ends in record {
        has = subst (HasFile t.shown s.file) (sym kept.fields) is.has;
        of = record { version_is = refl; layout_is = refl };
        view = first.view;
        found = first.found;
        unspent = first.unspent;
        stands = state_is_opened image first.view s first.found (keeps_view first.view first.checkpoint ends first.replies first.found);
      }

pub kept_is_answer : KeptIsAnswer
kept_is_answer t read traces after s is answers kept headers = kept_answer t read traces after s is kept headers answers

-- and the state's head is that of whatever view is found
pub head_found : (version : ℕ) (layout : Layout) (image : Image) (s : State) → SurveysAs version layout image (Ok s)
    → (v : View) → IsFound (shape s.file) (unit_at s.file.layout s.file.cluster image) v → head v ≡ s.head
head_found version layout image s is v found =
    let here : IsFound (shape s.file) (unit_at layout s.file.cluster image) v = rw (← is.of.layout_is) found in
    ap head (one_found_law (shape s.file) (unit_at layout s.file.cluster image) v is.view here is.found)
    ∙ sym (ap (λ (m : Memory). m.head) is.stands)
