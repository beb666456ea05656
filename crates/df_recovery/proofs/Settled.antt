-- A surveyed file that keeps what was read and found is the answer to an open, and so is a refusal; and the list that was planned is what
-- is to be mended of the image.
use Rattle.std.{proofs.{Common.{◌≡◌, ◌∙◌, ℕ, zero, suc, ◌+◌, ◌<◌, ◌≤◌, ◌^◌, Bool, true, false, cond, not, List, ◌∷◌, ◌++◌, length, get_or, map, Option, Some, None, Result, Ok, Err, refl, sym, ap, subst, arith}, lemmas.List.{ext_get_or}, lemmas.List.FromFn.{get_or-map-range_with_len, length-map-range_with_len}, lemmas.Option.{get_or_from_slice_get, same_Some, slice_get-map}}, specs.{Prelude.{IfOk, option_map}, List.{filter, range_with_len, slice_get}}}
use Rattle.{df_disk.specs.Told.{Told}, df_cases.specs.{Cases.{decision_of}, declared.cases.Decision.{Decision}}}
use Rattle.df_layout.specs.{declared.damage.Class.{Class}, declared.damage.Mend.{Mend}, declared.layout.Layout.{Layout}, declared.places.Zone.TheVariants.{Superblock, WalHeaders}}
use Rattle.df_format.specs.{Own.{place_in}, Shown.{class_at}, declared.superblock.SuperFields.{SuperFields}, declared.header.Header.{Header}}
use Rattle.df_journal.{specs.{Scan.{Scan, entry}, Scanned.{seen_at}, Shows.{IsSeenTable as AreSlots, TellsRings}, Tail.{AreNumbered, AreUnstored}, declared.table.Start.{Start}, Starting.{start_of}}, proofs.Laws.{class_shown, rings_shown}}
use Rattle.df_journal.specs.Scanned as rings
use Rattle.{df_model.specs.declared.errors.OpenError.{OpenError}, df_quorum.specs.declared.slot.Slot.{Slot}, df_units.specs.Bytes.{unit_at}}
use Rattle.df_sessions.specs.{Requests.{session_of, sessions_of}, declared.session.Session.{Session}}
use Rattle.{df_superblock.specs.Calls.{ShowsSlots}, df_rooms.specs.{State.{State, shape}, declared.file.DataFile.{DataFile}}}
use Rattle.df_theory.specs.Units
use Rattle.df_theory.{specs.{Units.{Content}, Found.{IsFound}, MendLaws.{IsSlotHeader}, View.{Checkpoint, View, head}}, proofs.Laws.{one_chosen_law, one_found_law}}
use Rattle.df_recovery.{specs.{Checkpoints.{Base, base_of}, Finding.{AnswersFinding, HasHeaders, IsOfFile, IsRefusedOpen, KeepsTraces, StoresTo, base_with, read_of}, Found.{IsChoiceOf, TellsFoundAs}, Plan.{ArePlanned, IsDecided, class_of_slot, copy_mend, copy_mends, decision_at, header_by, header_or_none, needs_header, op_above_in_slot, shown_class, slot_mend, slot_mends}, Scanning.{AreCopies, IsFileOf, IsScanAs, TellsReadAs, base_scanned}, Surveying.{ArePlannedFrom, IsLawfulScan, IsPlannedFor, IsReadOf, IsSurveyMendable, KeepsRead, KeepsScannedFile, TellsPlannedMends, TellsSurveyAs, copy_mend_at, headers_of, mends_of, planned_header, state_found}, Surveys.{SurveysAs}, Waiting.{waiting_in}, declared.finding.Traces.{Traces}, declared.scanned.Scanned.{Scanned}, declared.scanning.Copies.{Copies}, declared.surveying.Surveyed.{Surveyed}}, proofs.{FilesRead.{file_is_read}, OpenAnswers.{kept_is_answer, refused_is_answer}, Plans.{entry_there, op_in_is}, Scans.{scanned_as}}}

-- ---- what was read makes sense by itself

pub lawful : (version : ℕ) (layout : Layout) (told : Option Told) (x : Scanned) → IsScanAs version layout told x → IsLawfulScan x
lawful version layout told x scan = let read = scan.behind in
    let cluster : x.rooms.log.slots.start.cluster ≡ x.file.cluster = ap (λ (y : Start). y.cluster) read.start ∙ sym read.file.cluster_is in
    record {
      named = read.file.cluster_is;
      version = read.file.version_is;
      size = sym scan.served.layout_is.slots ∙ ap (λ (l : Layout). l.slots) (sym read.file.layout_is);
      fields = record {
        slots = sym scan.served.layout_is.slots ∙ ap (λ (l : Layout). l.slots) (sym read.file.layout_is);
        message_size = sym scan.served.layout_is.message_size ∙ ap (λ (l : Layout). l.message_size) (sym read.file.layout_is);
        clients = sym scan.served.layout_is.clients ∙ ap (λ (l : Layout). l.clients) (sym read.file.layout_is);
        block_size = sym scan.served.layout_is.block_size ∙ ap (λ (l : Layout). l.block_size) (sym read.file.layout_is);
        blocks = sym scan.served.layout_is.blocks ∙ ap (λ (l : Layout). l.blocks) (sym read.file.layout_is);
        cluster_is = sym read.file.cluster_is;
      };
      start = read.start;
      slots = rw (sym read.file.layout_is) at (rw cluster at read.tables.rings.is_table);
      places = read.places ∙ ap (λ (l : Layout). l.clients) (sym read.file.layout_is);
      idle = read.idle;
    }

-- sessions with the same requests are within the same limit
pub numbered_by : (before after : List Session) → sessions_of after ≡ sessions_of before → AreNumbered before → AreNumbered after
numbered_by before after same within k s at = from (slice_get before k) refl (sym (slice_get-map session_of before k)
    ∙ sym (ap (λ (ss : List Units.Session). slice_get ss k) same) ∙ slice_get-map session_of after k ∙ ap (option_map session_of) at)
  where
    from : (o : Option Session)
        → slice_get before k ≡ o → option_map session_of (slice_get before k) ≡ Some (session_of s) → s.request ≤ 2 ^ 62
    from None there is = absurd (let no : option_map session_of None ≡ Some (session_of s) = rw there at is in cc)
    from (Some t) there is = let both : Some (session_of t) ≡ Some (session_of s) = rw there at is in
        subst (λ (n : ℕ). n ≤ 2 ^ 62) (ap (λ (x : Units.Session). x.request) (same_Some _ _ both)) (within k t there)

pub if_ok_more : {T E : Type 0} → (P Q : T → Type 0) (r : Result T E) → ((x : T) → P x → Q x) → IfOk r P → IfOk r Q
if_ok_more P Q (Ok x) more is = more x is
if_ok_more P Q (Err e) more is = tt

-- ---- the answer

module _ (t : Told) (x : Scanned) (is : IsOfFile t x.file (read_of x) (base_scanned x)) where
  pub refused : (e : OpenError) → IsRefusedOpen (read_of x) e → SurveysAs x.file.version x.file.layout t.shown (Err e)
  refused e blames = refused_is_answer t x.file (read_of x) (base_scanned x) e is blames

  -- the view's state ends where the tail does
  ends_there : (traces : Traces) (after : List Session) → AnswersFinding (read_of x) (Ok traces) after
      → (v : View) → IsFound (shape x.file) (unit_at x.file.layout x.file.cluster t.shown) v → head v ≡ traces.tail.op
  ends_there traces after answers v found = let finds = answers (shape x.file) (unit_at x.file.layout x.file.cluster t.shown)
      (base_of x.copies.found.content is.checkpoint.chain is.checkpoint.parts) (file_is_read t x.file (read_of x) (base_scanned x) is) in
      ap head (one_found_law (shape x.file) (unit_at x.file.layout x.file.cluster t.shown) v finds.view found finds.found)
      ∙ ap (λ (b : Checkpoint). b.content.op + length finds.view.tail) finds.checkpoint ∙ sym finds.ends.op

  module _ (traces : Traces) (after : List Session)
      (settled : Scanned) (y : Surveyed) (answers : AnswersFinding (read_of x) (Ok traces) after) (unstored : AreUnstored after)
      (stores : StoresTo traces.replies x.rooms.log.replies (length after) after settled.sessions.sessions) (of : KeepsScannedFile x settled)
      (root_is : settled.root ≡ x.root) (blocks_are : settled.rooms.grid.blocks ≡ x.rooms.grid.blocks)
      (keeps : KeepsRead settled y.scanned) (traces_are : y.traces ≡ traces)
      (waiting : y.waiting.items ≡ waiting_in settled.file.layout.slots
      settled.rooms.log.slots y.scanned.rooms.log.headers traces.replies traces.tail.op) (plan : IsPlannedFor y) where
    abbrev s : State
    s = state_found y

    file_is : s.file ≡ x.file
    file_is = keeps.file ∙ of.file

    base_is : base_with s x.sessions.sessions ≡ base_scanned x
    base_is = λ i. record { root = (ap (λ r. r.items) (keeps.root ∙ root_is)) i; sessions = x.sessions.sessions; blocks = (keeps.blocks ∙ blocks_are) i }

    own : IsOfFile t s.file (read_of x) (base_with s x.sessions.sessions)
    own = subst (λ (b : Base). IsOfFile t s.file (read_of x) b) (sym base_is) (rw file_is is)

    abbrev image : Units.Units
    image = unit_at s.file.layout s.file.cluster t.shown

    kept : KeepsTraces (read_of x) traces after s
    kept = record {
      fields = ap (λ c. c.found.content) (keeps.copies ∙ of.copies);
      head_is = ap (λ (r : Traces). r.tail.op) traces_are;
      head_checksum = ap (λ (r : Traces). r.tail.checksum) traces_are;
      replies = ap (λ (r : Traces). r.replies) traces_are;
      unstored = unstored;
      stored = rw (sym keeps.sessions) at stores;
      count = plan.plan.is_table.count;
      waiting = waiting ∙ (λ i. waiting_in ((sym keeps.file) i).layout.slots
          (of.slots i) y.scanned.rooms.log.headers ((sym traces_are) i).replies ((sym traces_are) i).tail.op);
      starts = record { staged = refl; running = refl; tour = refl; findings = refl };
    }

    headers : HasHeaders image s
    headers v is_found slot h at = let read = file_is_read t s.file (read_of x) (base_with s x.sessions.sessions) own in
        let base : Checkpoint = base_of x.copies.found.content own.checkpoint.chain own.checkpoint.parts in
        let content : v.checkpoint.content ≡ base.content =
        one_chosen_law image v.checkpoint.content base.content is_found.chosen read.readable.chosen in
        let start : y.scanned.rooms.log.slots.start ≡ start_of x.copies.found.content =
        ap (λ (r : Scan). r.start) (keeps.slots ∙ of.slots) ∙ is.start in
        let tells : TellsRings s.file.layout image y.scanned.rooms.log.slots =
        rw (sym (keeps.slots ∙ of.slots)) at (rw (sym file_is) at read.tells) in let here = plan.plan.from (shape s.file) image v (record {
          slots_are = refl;
          op = ap (λ (c : Content). c.op) content ∙ sym (ap (λ (r : Start). r.op) start);
          pin = ap (λ (c : Content). c.pin) content ∙ sym (ap (λ (r : Start). r.head) start);
          boot = ap (λ (c : Content). c.boot) content ∙ sym (ap (λ (r : Start). r.boot) start);
          head_is = top_is v is_found;
          tells = tells;
          found = is_found;
        }) slot in rw (ap header_or_none at) at here
      where
        top_is : (v : View) → IsFound (shape s.file) image v → head v ≡ y.traces.tail.op
        top_is v is_found = ends_there traces after answers v (rw file_is at is_found) ∙ sym (ap (λ (r : Traces). r.tail.op) traces_are)

    pub opened : SurveysAs x.file.version x.file.layout t.shown (Ok s)
    opened = subst (λ (file : DataFile).
        SurveysAs file.version file.layout t.shown (Ok s)) file_is (kept_is_answer t (read_of x) traces after s own answers kept headers)

-- ---- the list that was planned is what is to be mended of the image

-- what two functions make of the numbers that are wanted is the same where they agree
listed_case : (b : Bool) (f g : ℕ → Mend) (a : ℕ) (xs ys : List ℕ)
    → f a ≡ g a → map f xs ≡ map g ys → map f (cond b (a ∷ xs) xs) ≡ map g (cond b (a ∷ ys) ys)
listed_case true f g a xs ys one rest = λ i. one i ∷ rest i
listed_case false f g a xs ys one rest = rest

listed : (f g : ℕ → Mend) (p : ℕ → Bool) (a n : ℕ)
    → ((k : ℕ) → a ≤ k → k < a + n → f k ≡ g k) → map f (filter p (range_with_len a n)) ≡ map g (filter p (range_with_len a n))
listed f g p a zero same = refl
listed f g p a (suc n) same = listed_case (p a) f g a (filter p (range_with_len (a + 1) n)) (filter p (range_with_len (a + 1) n))
    (same a (omega arith) (omega arith)) (listed f g p (a + 1) n (λ k from to. same k (omega (arith, from)) (omega (arith, to))))

-- a list with this at each place is what a function makes of the places
each_slot : (header : ℕ → Header) (n : ℕ) (table : List Header)
    → length table ≡ n → ((slot : ℕ) → slot < n → slice_get table slot ≡ Some (header slot)) → table ≡ map header (range_with_len 0 n)
each_slot header n table count each =
    ext_get_or (header 0) table (map header (range_with_len 0 n)) (count ∙ sym (length-map-range_with_len header 0 n))
    (λ slot below. get_or_from_slice_get table slot (header slot) (header 0) (each slot (omega (arith, below, count)))
    ∙ sym (get_or-map-range_with_len header 0 n slot slot (header 0) (omega (arith, below, count)) (omega arith)))

module _ (t : Told) (x : Scanned) (is : IsOfFile t x.file (read_of x) (base_scanned x)) (shows : ShowsSlots (Some t) x.copies.slots) where
  abbrev layout : Layout
  layout = x.file.layout

  abbrev f : SuperFields
  f = x.copies.found.content

  abbrev scan : Scan
  scan = x.rooms.log.slots

  cluster : scan.start.cluster ≡ f.cluster
  cluster = is.cluster ∙ sym is.has.cluster

  copies_listed : (members : List Bool)
      → copy_mends x.copies.slots members ≡ map (copy_mend_at t.shown) (filter (λ n. not (get_or members n false)) (range_with_len 0 4))
  copies_listed members = listed (copy_mend x.copies.slots) (copy_mend_at t.shown) (λ n. not (get_or members n false)) 0 4
      (λ k from to. ap (λ (slot : Slot). record { place = place_in Superblock k; class = class_of_slot slot }) (shows k to))

  slots_listed : (top : ℕ) → slot_mends (needs_header layout scan.start top (unit_at layout f.cluster t.shown)) (shown_class scan) layout.slots
      ≡ slot_mends (needs_header layout (start_of f) top (unit_at layout f.cluster t.shown)) (λ s.
      class_at layout f.cluster t.shown (place_in WalHeaders s)) layout.slots
  slots_listed top = ap (λ (start : Start).
      slot_mends (needs_header layout start top (unit_at layout f.cluster t.shown)) (shown_class scan) layout.slots) is.start
      ∙ listed (slot_mend (shown_class scan)) (slot_mend (λ s. class_at layout f.cluster t.shown (place_in WalHeaders s)))
      (needs_header layout (start_of f) top (unit_at layout f.cluster t.shown)) 0 layout.slots
      (λ k from to. ap (λ (class : Class). record { place = place_in WalHeaders k; class = class }) ((class_shown
      layout t scan k is.scanned.slots (omega (arith, to))).0 ∙ ap (λ (n : ℕ). class_at layout n t.shown (place_in WalHeaders k)) cluster))

  -- the header that was planned of a slot is that of the image
  header_shown : (top slot : ℕ) (d : Decision)
      → slot < layout.slots → TellsRings layout (unit_at layout f.cluster t.shown) scan → IsDecided scan top slot d
      → header_by x.file.cluster slot (entry scan slot) (decision_of d) ≡ planned_header layout t.shown f top slot
  header_shown top slot d below tells decided = let image = unit_at layout f.cluster t.shown in
      let own : x.file.cluster ≡ f.cluster = sym is.has.cluster in
      let there : slice_get scan.slots slot ≡ Some (entry scan slot) = entry_there scan slot (omega (arith, below, tells.table.size)) in
      let seen : entry scan slot ≡ seen_at layout f.cluster t.shown slot =
      is.scanned.slots.seen slot (entry scan slot) there ∙ ap (λ (n : ℕ). seen_at layout n t.shown slot) cluster in
      let one : decision_of d ≡ decision_at layout (start_of f) top image slot =
      decided layout image (op_above_in_slot layout.slots scan.start.op slot) tells (op_in_is layout scan.start.op slot below)
      ∙ ap (λ (start : Start). decision_at layout start top image slot) is.start in (λ i. header_by (own i) slot (seen i) (one i))

  headers_shown : (top : ℕ) (table : List Header) → length table ≡ layout.slots → TellsRings layout (unit_at layout f.cluster t.shown) scan
      → ArePlanned x.file.cluster scan top layout.slots table → table ≡ headers_of layout t.shown f top
  headers_shown top table count tells planned =
      each_slot (planned_header layout t.shown f top) layout.slots table count (λ slot below. let plan = planned slot below in
      plan.2 ∙ ap Some (header_shown top slot plan.0 below tells plan.1))

  pub mendable : (y : Surveyed) → KeepsScannedFile x y.scanned → IsPlannedFor y → IsSurveyMendable layout t.shown y
  mendable y of plan = let image = unit_at layout f.cluster t.shown in let members = x.copies.found.chosen.members in
      let top = y.traces.tail.op in let here : ArePlannedFrom
      x.file.layout x.file.cluster scan top x.copies.slots members y.scanned.rooms.log.headers y.scanned.rooms.log.mends.items =
      rw of.file at (rw of.slots at (rw of.copies at plan.plan)) in
      let each : ArePlanned x.file.cluster scan top layout.slots y.scanned.rooms.log.headers =
      rw of.file at (rw of.slots at plan.each) in
      let tells : TellsRings layout image scan = rw (← cluster) (rings_shown layout t scan is.scanned.slots) in
      let list = here.list image tells ∙ ap (λ (xs : List Mend).
      xs ++ slot_mends (needs_header layout scan.start top image) (shown_class scan) layout.slots) (copies_listed members)
      ∙ ap (λ (xs : List Mend).
      map (copy_mend_at t.shown) (filter (λ n. not (get_or members n false)) (range_with_len 0 4)) ++ xs) (slots_listed top) in record {
        choice = rw (sym of.copies) at is.choice;
        four = plan.four;
        table = rw (sym of.copies) at (headers_shown top y.scanned.rooms.log.headers here.is_table.count tells each);
        mends = rw (sym of.copies) at list;
      }

-- ---- what a disk tells

module _ (version : ℕ) (x : Scanned) (layout : Layout) where
  pub told_mends : {R : Type 0} → (r : Result Surveyed R) (told : Option Told)
      → TellsReadAs version (λ (y : Scanned). y.copies.found) layout told (Ok x) → IsScanAs version layout told x
      → IfOk r IsPlannedFor → IfOk r (λ y. KeepsScannedFile x y.scanned) → IfOk r (TellsPlannedMends layout told)
  told_mends (Err e) told reads from plan of = tt
  told_mends (Ok y) None reads from plan of = tt
  told_mends (Ok y) (Some t) reads from plan of = λ image. subst (λ (l : Layout). IsSurveyMendable l t.shown y)
      from.behind.file.layout_is (mendable t x (scanned_as version t layout x image reads from) from.copies.slots y of plan)

  -- the file is of the version that was asked for
  pub version_is : (told : Option Told) → IsScanAs version layout told x → x.file.version ≡ version
  version_is told from = from.behind.file.version_is ∙ from.copies.version_is

  pub told_answer : (r : Result State OpenError) (told : Option Told)
      → TellsReadAs version (λ (y : Scanned). y.copies.found) layout told (Ok x) → IsScanAs version layout told x
      → ((t : Told) → IsOfFile t x.file (read_of x) (base_scanned x) → SurveysAs x.file.version x.file.layout t.shown r)
      → TellsSurveyAs version layout told r
  told_answer r None reads from law = tt
  told_answer r (Some t) reads from law = λ image. subst (λ (l : Layout). SurveysAs version l t.shown r)
      from.behind.file.layout_is (rw (version_is (Some t) from) at (law t (scanned_as version t layout x image reads from)))

-- ---- what was read, of a file of which the sessions may differ

told_found : (version : ℕ) (layout : Layout) (told : Option Told) (x : Scanned)
    → TellsReadAs version (λ (y : Scanned). y.copies.found) layout told (Ok x) → TellsFoundAs version told (Ok x.copies.found)
told_found version l None x reads = tt
told_found version l (Some t) x reads = reads

pub read_kept : (version : ℕ) (layout : Layout) (told : Option Told) (x y : Scanned) → TellsReadAs version (λ (z : Scanned).
    z.copies.found) layout told (Ok x) → IsScanAs version layout told x → KeepsScannedFile x y → IsReadOf version layout told y
read_kept version layout told x y reads scan of = record {
  file = rw (sym of.copies) at (subst (IsFileOf layout x.copies.found.content) (sym of.file) scan.behind.file);
  copies = subst (AreCopies version told) (sym of.copies) scan.copies;
  found = rw (sym of.copies) at (told_found version layout told x reads);
  start = ap (λ (r : Scan). r.start) of.slots ∙ scan.behind.start ∙ ap (λ (c : Copies). start_of c.found.content) (sym of.copies);
  rings_are = subst (rings.IsScanned layout told) (sym of.slots) scan.behind.tables.rings;
}
