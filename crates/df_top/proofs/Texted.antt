-- A session's text and status follow from its script and from what the disk shows.
use Rattle.std.proofs.{Common.{◌≡◌, ◌⊎◌, inl, inr, ℕ, ◌+◌, ◌-◌, Bool, List, [], ◌∷◌, ◌++◌, length, map, Option, Some, None, refl, sym, ◌∙◌, ap, subst, arith}, lemmas.List.{append-nil}}
use Rattle.{df_base.specs.{Image.{Image}, Streams.{Appends}}, df_disk.specs.Told.{Told}, df_inspect.specs.Opening.{script_text}}
use Rattle.{df_layout.specs.declared.layout.Layout.{Layout}, df_quorum.specs.Quorum.{IsChosenContent}, df_units.specs.Bytes.{unit_at}}
use Rattle.df_format.specs.{Copies.{Content, content_at}, declared.superblock.SuperFields.{SuperFields}}
use Rattle.df_lines.{specs.{Grammar.{Said}, Room.{line_bound}, Script.{BeginsWithLines, IsRefused, IsScript}, Text.{after_line, taken}}, proofs.Laws.{one_script}}
use Rattle.df_theory.{specs.{Found.{IsFound}, Units.{AnyUnit, BlockPlace, Place, PreparePlace, ReplyPlace}, View.{View}}, proofs.Laws.{one_found_law}}
use Rattle.df_model.specs.{Supply.{Shown, begun_from}, Work.{Work, opened}}
use Rattle.df_pace.{specs.declared.pace.Pace.{Pace}, proofs.Laws.{idle_law}}
use Rattle.df_session.{specs.{Begun.{begun_work}, Below.{DataFile, IsOpened, State as Replica, shape}, Reading.{shown_of}, Codec.{codec}, Agreeing.{AgreeShown}, Found.{FoundFile}}, proofs.Laws.{file_there, layout_there, one_super, same_file, super_shown, view_there, agree_self}}
use Rattle.df_top.specs.{Lines.{Failing, Turned, act_of, all_said, all_text, command_of_line, printed, said_of}, OneText.{OneText, ShowSame, TextIsResult, status_by, text_by}, Outside.{IsThrough, Outside}, Resulting.{TextAlone, joined, text_over}, Run.{ServesScript, script_budget, start}, Session.{EndsText, EndsWith}, declared.status.Status.{Status}, declared.status.Status.TheVariants.{Done, Script, Words, Refused, Memory, DiskFault, ReadFault, WriteFault, Found}}

-- ---- how a text ends

begins_one : (bound budget : ℕ) (text : List ℕ) (says : List Said) (left other : ℕ) (rest more : List ℕ)
    → BeginsWithLines bound budget text says left rest → BeginsWithLines bound budget text says other more → (left ≡ other) × (rest ≡ more)
begins_one bound budget text [] left other rest more one two = (one.0 ∙ sym two.0, one.1 ∙ sym two.1)
begins_one bound budget text (said ∷ says) left other rest more one two =
    begins_one bound (budget - taken text) (after_line text) says left other rest more one.1 two.1

-- what was executed is the script, and this is how it ends
pub record EndsAs (bound budget : ℕ) (text : List ℕ) (says lines : List Said) (script : IsScript bound budget text says) (status : Status) (more : ℕ → List ℕ → List ℕ) : Type 0 where
  pub lines_are : lines ≡ says
  pub status_is : status ≡ status_by script.ends
  pub text_is : (n : ℕ) (printed : List ℕ) → more n printed ≡ text_by script.ends n printed

module _ (bound budget : ℕ) (text : List ℕ) (says lines : List Said)
    (script : IsScript bound budget text says) (left : ℕ) (rest : List ℕ) (begins : BeginsWithLines bound budget text lines left rest) where
  behind : lines ≡ says → (left ≡ script.left) × (rest ≡ script.rest)
  behind same = begins_one bound budget text says left script.left rest script.rest (rw same at begins) script.begins

  ends_whole : rest ≡ [] → EndsAs bound budget text says lines script Done (λ n printed. printed)
  ends_whole none = go script.ends refl
    where
      same : lines ≡ says
      same = one_script bound budget text lines says (record { left = left; rest = rest; begins = begins; ends = inl none }) script

      go : (e : (script.rest ≡ []) ⊎ IsRefused bound script.left script.rest)
          → script.ends ≡ e → EndsAs bound budget text says lines script Done (λ n printed. printed)
      go (inl empty) is = record { lines_are = same; status_is = sym (ap status_by is); text_is = λ n printed. sym (ap (λ (x : (script.rest ≡ []) ⊎ IsRefused bound script.left script.rest). text_by x n printed) is) }
      go (inr refused) is = absurd (refused.some (sym (behind same).1 ∙ none))

  ends_refused : IsRefused bound left rest → EndsAs bound budget text says lines script Script (λ n printed. printed ++ script_text (n + 1))
  ends_refused refused = go script.ends refl
    where
      same : lines ≡ says
      same = one_script bound budget text lines says (record { left = left; rest = rest; begins = begins; ends = inr refused }) script

      go : (e : (script.rest ≡ []) ⊎ IsRefused bound script.left script.rest)
          → script.ends ≡ e → EndsAs bound budget text says lines script Script (λ n printed. printed ++ script_text (n + 1))
      go (inl empty) is = absurd (refused.some ((behind same).1 ∙ empty))
      go (inr other) is = record { lines_are = same; status_is = sym (ap status_by is); text_is = λ n printed. sym (ap (λ (x : (script.rest ≡ []) ⊎ IsRefused bound script.left script.rest). text_by x n printed) is) }

-- ---- how a session ends

-- where nothing failed each line was answered, and the session came to the end of its text, or to a line that is refused
pub record IsThroughBy (bound budget : ℕ) (text : List ℕ) (turns : List Turned) (old new : Outside) (status : Status) : Type 0 where
  pub left : ℕ
  pub rest : List ℕ
  pub begins : BeginsWithLines bound budget text (all_said turns) left rest
  pub ends : ((status ≡ Done) × (rest ≡ []) × Appends old.written new.written (all_text turns)) ⊎ ((status ≡ Script)
      × IsRefused bound left rest × Appends old.written new.written (all_text turns ++ script_text (length (all_said turns) + 1)))

module _ (bound : ℕ) (text : List ℕ) (turns : List Turned) (old new : Outside) (budget : ℕ) (left : ℕ) (rest : List ℕ) where
  through : (failing : Option Failing) (cut : Bool) (status : Status) → BeginsWithLines bound budget text (all_said turns ++ said_of failing) left rest → EndsText bound left rest new.left cut status → EndsWith 0 old new turns (act_of failing) cut status → IsThrough status
      → IsThroughBy bound budget text turns old new status
  through None cut Done begins ends wrote is = record {
    left = left;
    rest = rest;
    begins = rw (append-nil (all_said turns)) at begins;
    ends = inl (refl, (ends.finished refl).0, rw wrote.0 at wrote.1);
  }
  through None cut Script begins ends wrote is = record {
    left = left;
    rest = rest;
    begins = rw (append-nil (all_said turns)) at begins;
    ends = let count : 0 + length (all_said turns) + 1 ≡ length (all_said turns) + 1 = omega arith in
        inr (refl, ends.refused wrote.0, rw count at (rw wrote.0 at wrote.1));
  }
  through (Some f) cut Done begins ends wrote is = absurd wrote
  through (Some f) cut Script begins ends wrote is = absurd wrote
  through failing cut case begins ends wrote is = absurd is

module _ (pace : Pace) (layout : Layout) (t : Told) (old new : Outside) (status : Status) (opening : FoundFile layout t)
    (serves : ServesScript pace layout t opening old new status) (text : List ℕ) (left : old.left ≡ Some text) (is : IsThrough status) where
  abbrev file : DataFile
  file = opening.replica.file

  abbrev turns : List Turned
  turns = serves.session.turns

  by : IsThroughBy (line_bound layout) script_budget text turns (start opening.mended old opening.replica).outside serves.last.outside status
  by = let ended = serves.session.text text left in
      through (line_bound layout) text turns (start opening.mended old opening.replica).outside serves.last.outside
      script_budget ended.0 ended.1 serves.session.failing serves.session.cut status ended.2 ended.3 serves.session.written is

  -- its script
  pub script_of : IsScript (line_bound layout) script_budget text (all_said turns)
  script_of = record {
    left = by.left;
    rest = by.rest;
    begins = by.begins;
    ends = elim by.ends [
      | inl whole ↦ inl whole.1
      | inr cut ↦ inr cut.1
    ];
  }

  module _ (view : View) (shown : Shown) (says : List Said) (script : IsScript (line_bound layout) script_budget text says) (found : IsFound
      (shape file) (unit_at file.layout file.cluster t.shown) view) (agree : AgreeShown file.layout (shown_of file t.shown) shown) where
    abbrev w : Work
    w = begun_work file t.shown view

    lines_text : all_text turns ≡ text_over pace file shown w (all_said turns)
    lines_text = (serves.result view shown found agree).text

    abbrev Prints : List ℕ → Type 0
    Prints line = Appends old.written new.written line

    written_new : (line : List ℕ) → Appends old.written serves.last.outside.written line → Prints line
    written_new line wrote = subst (λ (o : Outside). Appends old.written o.written line) serves.last_is wrote

    -- its status, and what it prints over whatever agrees with what the disk shows
    pub prints_over : (status ≡ status_by script.ends) × Prints (text_by script.ends (length says) (text_over pace file shown w says))
    prints_over = elim by.ends [
      | inl (done, empty, wrote) ↦
          let ends = ends_whole (line_bound layout) script_budget text says (all_said turns) script by.left by.rest by.begins empty in
          let line : all_text turns ≡ text_by script.ends (length says) (text_over pace file shown w says) =
          lines_text ∙ ap (text_over pace file shown w) ends.lines_are ∙ ends.text_is (length says) (text_over pace file shown w says) in
          (done ∙ ends.status_is, subst Prints line (written_new (all_text turns) wrote))
      | inr (cut, refused, wrote) ↦
          let ends = ends_refused (line_bound layout) script_budget text says (all_said turns) script by.left by.rest by.begins refused in
          let count : length (all_said turns) ≡ length says = ap length ends.lines_are in let line : all_text turns
          ++ script_text (length (all_said turns) + 1) ≡ text_by script.ends (length says) (text_over pace file shown w says) =
          ap (λ (l : List ℕ). l ++ script_text (length (all_said turns) + 1)) (lines_text ∙ ap (text_over pace file shown w) ends.lines_are)
          ∙ ap (λ (n : ℕ). text_over pace file shown w says ++ script_text (n + 1)) count
          ∙ ends.text_is (length says) (text_over pace file shown w says) in
          (cut ∙ ends.status_is, subst Prints line (written_new (all_text turns ++ script_text (length (all_said turns) + 1)) wrote))
    ]

pub text_is_result : TextIsResult
text_is_result pace layout t old new status opening serves view text says script found left is = let file = opening.replica.file in
    prints_over pace layout t old
    new status opening serves text left is view (shown_of file t.shown) says script found (agree_self file.layout (shown_of file t.shown))

-- beside no work
pub text_alone : TextAlone
text_alone file shown w says = ap joined (idle_law (shape file) (codec file) shown w (map command_of_line says))

-- ---- two images that show the same

module _ (layout : Layout) (a b : Image) (same : ShowSame layout a b) where
  super_there : (f : SuperFields) (content : Content) → IsChosenContent (content_at a) content → IsChosenContent (content_at b) content
  super_there f content chosen = subst (λ (shown : ℕ → Option Content). IsChosenContent shown content) (λ i n. same.copies n i) chosen

  units_there : (cluster : ℕ) → unit_at layout cluster a ≡ unit_at layout cluster b
  units_there cluster i place = same.units cluster place i

  -- of one file
  one_file : (s u : Replica) → IsOpened layout a s → IsOpened layout b u → s.file ≡ u.file
  one_file s u one other = let own = super_shown layout a s one in let chosen = super_there s.fields own.content own.chosen in
      let fields : s.fields ≡ u.fields =
      one_super b s.fields u.fields
      (record { content = own.content; chosen = chosen; fields = own.fields; usable = own.usable }) (super_shown layout b u other) in
      same_file s.file u.file (one.of.layout_is ∙ sym other.of.layout_is)
      (sym one.has.cluster ∙ ap (λ (f : SuperFields). f.cluster) fields ∙ other.has.cluster) (one.of.version_is ∙ sym other.of.version_is)

  -- and of one view
  one_view : (s u : Replica) (one : IsOpened layout a s) (other : IsOpened layout b u) → one.view ≡ other.view
  one_view s u one other = one_found_law (shape u.file) (unit_at layout u.file.cluster b) one.view other.view
      (rw (one_file s u one other) at (rw (units_there s.file.cluster) at one.found)) other.found

  agree_there : (file : DataFile) → file.layout ≡ layout → AgreeShown file.layout (shown_of file a) (shown_of file b)
  agree_there file of = let here : ShowSame file.layout a b = rw (sym of) at same in record {
    units = record { prepare = λ k. here.units file.cluster (PreparePlace k); reply = λ k. here.units file.cluster (ReplyPlace k); block = λ k. here.units file.cluster (BlockPlace k) };
    classes = λ place read none. here.classes file.cluster place read none;
  }

  -- what lines print over the one and over the other
  one_line : (pace : Pace) (s u : Replica) (one : IsOpened layout a s) (other : IsOpened layout b u) (says : List Said)
      → text_over pace s.file (shown_of s.file b) (begun_work s.file a one.view) says
      ≡ text_over pace u.file (shown_of u.file b) (begun_work u.file b other.view) says
  one_line pace s u one other says = let there : unit_at s.file.layout s.file.cluster a ≡ unit_at s.file.layout s.file.cluster b =
      rw (sym one.of.layout_is) at (units_there s.file.cluster) in ap (λ (image : Place → Option AnyUnit). text_over
      pace s.file (shown_of s.file b) (begun_from (shape s.file) (codec s.file) (opened (shape s.file) image one.view)) says) there
      ∙ ap (λ (v : View). text_over pace s.file (shown_of s.file b) (begun_work s.file b v) says) (one_view s u one other)
      ∙ ap (λ (f : DataFile). text_over pace f (shown_of f b) (begun_work f b other.view) says) (one_file s u one other)

pub one_text : OneText
one_text pace layout t u old new before now status ending text here there one other same left also is are = let s = here.replica in
    let r = there.replica in let script = script_of pace layout u before now ending there other text also are in
    let says : List Said = all_said other.session.turns in
    let first = prints_over pace layout t old new status here one text left is here.is_opened.view (shown_of s.file u.shown)
    says script (view_there layout t here) (agree_there layout t.shown u.shown same s.file (layout_there layout t here)) in
    let second = prints_over pace layout u before now ending there other text also are there.is_opened.view
    (shown_of r.file u.shown) says script (view_there layout u there) (agree_self r.file.layout (shown_of r.file u.shown)) in
    let line : text_over pace s.file (shown_of s.file u.shown) (begun_work s.file t.shown here.is_opened.view) says
    ≡ text_over pace r.file (shown_of r.file u.shown) (begun_work r.file u.shown there.is_opened.view) says =
    ap (λ (f : DataFile). text_over pace f (shown_of f u.shown) (begun_work f t.shown here.is_opened.view) says) (file_there layout t here)
    ∙ one_line layout t.shown u.shown same pace here.found there.found here.is_opened there.is_opened says ∙ ap (λ (f : DataFile).
    text_over pace f (shown_of f u.shown) (begun_work f u.shown there.is_opened.view) says) (sym (file_there layout u there)) in (
      first.0 ∙ sym second.0,
      (
        text_by
            script.ends (length says) (text_over pace r.file (shown_of r.file u.shown) (begun_work r.file u.shown there.is_opened.view) says),
        rw line at first.1,
        second.1,
      ),
    )
