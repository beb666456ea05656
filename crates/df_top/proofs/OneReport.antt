-- An image has one report, since it has one superblock, one view, and one list of what is to be mended.
use Rattle.std.{proofs.Common.{◌≡◌, ℕ, ◌<◌, Bool, false, not, List, [], ◌∷◌, ◌++◌, length, Option, None, Some, refl, sym, ◌∙◌, ap, subst, arith}, specs.{Prelude.{◌+◌, zero, suc, codes, map, get_or}, List.{filter, range_with_len}}}
use Rattle.{df_base.{specs.Image.{Image}, proofs.Laws.{same_bit}}, df_quorum.{specs.Quorum.{AreMembers}, proofs.Laws.{one_law}}}
use Rattle.df_format.specs.{Copies.{Content, content_at}, Own.{place_in}, Shown.{class_at}, declared.superblock.SuperFields.{SuperFields}}
use Rattle.df_inspect.specs.Reports.{each_text, mend_text, row_text, session_text, stored_text, summary_text}
use Rattle.df_layout.specs.{declared.damage.Mend.{Mend}, declared.layout.Layout.{Layout}, declared.places.Zone.TheVariants.{WalHeaders}}
use Rattle.df_session.{proofs.Laws.{filter_more, one_super, same_file, super_shown}, specs.{Below.{if_wanted, needs_header, slot_mends, start_of, IsOpened, memory, reply_sum, shape, spelling, stored_sum, DataFile, State}, Replica.{Survey, summary_of}, Surveying.{IsMendable, copy_mend_at, mends_of}}}
use Rattle.{df_script_model.specs.Texts.{body_text, line_of, numbered, spaced}, df_units.specs.Bytes.{unit_at}}
use Rattle.df_sessions.{specs.{Requests.{session_of, sessions_of}, declared.session.Session.{Session}}, proofs.Laws.{length_sessions}}
use Rattle.df_theory.{specs.{Found.{IsFound}, View.{View}}, proofs.Laws.{one_found_law}}
use Rattle.df_theory.specs.Units
use Rattle.df_model.specs.{Memory.{Memory, memory_of}, Work.{opened}, declared.answers.Summary.{Summary}}
use Rattle.df_top.specs.Reporting.{OneReport, report_of, status_of}

-- ---- the sessions' lines say what the theory knows of them

stored_same : (r : Option (List ℕ)) → stored_text r ≡ stored_text (reply_sum r)
stored_same None = refl
stored_same (Some check) = refl

model_text : ℕ → Units.Session → Option ℕ → List ℕ
model_text place s stored = line_of
    (spaced (numbered (codes "session") place) (spaced (numbered (codes "client") s.client) (spaced (numbered (codes "request") s.request)
    (spaced (numbered (codes "op") s.op) (stored_text stored)))))

text_is : (place : ℕ) (s : Session) → session_text place s ≡ model_text place (session_of s) (stored_sum s)
unfolding model_text
text_is place s = ap (λ (l : List ℕ). line_of
    (spaced (numbered (codes "session") place) (spaced (numbered (codes "client") s.client) (spaced (numbered (codes "request") s.request)
    (spaced (numbered (codes "op") s.op) l))))) (stored_same s.reply)

texts_same : (place : ℕ) (ss us : List Session) → sessions_of ss ≡ sessions_of us
    → map stored_sum ss ≡ map stored_sum us → each_text session_text place ss ≡ each_text session_text place us
texts_same place [] [] one two = refl
texts_same place [] (u ∷ us) one two = absurd (omega (arith, ap length one))
texts_same place (s ∷ ss) [] one two = absurd (omega (arith, ap length one))
texts_same place (s ∷ ss) (u ∷ us) one two = let first : session_of s ≡ session_of u = cc one in
    let stored : stored_sum s ≡ stored_sum u = cc two in
    let rest : each_text session_text (place + 1) ss ≡ each_text session_text (place + 1) us = texts_same (place + 1) ss us (cc one) (cc two) in
    let line : session_text place s ≡ session_text place u =
    text_is place s ∙ ap (λ (x : Units.Session). model_text place x (stored_sum s)) first
    ∙ ap (model_text place (session_of u)) stored ∙ sym (text_is place u) in
    ap (λ (l : List ℕ). l ++ each_text session_text (place + 1) ss) line ∙ ap (λ (l : List ℕ). session_text place u ++ l) rest

-- ---- the list of mends is that of the members

filter_same : (p q : ℕ → Bool) (n : ℕ) → ((k : ℕ) → k < n → p k ≡ q k) → filter p (range_with_len 0 n) ≡ filter q (range_with_len 0 n)
filter_same p q zero same = refl
filter_same p q (suc n) same = let one_more : suc n ≡ n + 1 = omega arith in
    subst (λ (m : ℕ). filter p (range_with_len 0 m) ≡ filter q (range_with_len 0 m)) (sym one_more)
    (filter_more p n ∙ ap (λ (l : List ℕ). l ++ if_wanted (p n) n) (filter_same p q n (λ k below. same k (omega (arith, below))))
    ∙ ap (λ (b : Bool). filter q (range_with_len 0 n) ++ if_wanted b n) (same n (omega arith)) ∙ sym (filter_more q n))

-- what copies show a content is one question
members_same : (image : Image) (c d : Content) (m k : List Bool)
    → c ≡ d → AreMembers (content_at image) c m → AreMembers (content_at image) d k → (n : ℕ) → n < 4 → get_or m n false ≡ get_or k n false
members_same image c d m k same one other n below = same_bit (get_or m n false) (get_or k n false)
    (λ is. (other n below).1 ((one n below).0 is ∙ ap Some same)) (λ is. (one n below).1 ((other n below).0 is ∙ ap Some (sym same)))

mends_same : (layout : Layout) (image : Image) (f g : SuperFields) (top head : ℕ) (m k : List Bool) → f ≡ g
    → top ≡ head → ((n : ℕ) → n < 4 → get_or m n false ≡ get_or k n false) → mends_of layout image f top m ≡ mends_of layout image g head k
mends_same layout image f g top head m k fields level bits =
    ap (λ (ns : List ℕ). map (copy_mend_at image) ns ++ slot_mends (needs_header layout (start_of f) top (unit_at layout f.cluster image))
    (λ s. class_at layout f.cluster image (place_in WalHeaders s)) layout.slots)
    (filter_same (λ n. not (get_or m n false)) (λ n. not (get_or k n false)) 4 (λ n below. ap not (bits n below)))
    ∙ ap (λ (x : SuperFields). mends_of layout image x top k) fields ∙ ap (λ (n : ℕ). mends_of layout image g n k) level

-- replicas with the same superblock, and the same in memory, have one summary
pub summary_same : (s u : State) → s.file ≡ u.file → s.fields ≡ u.fields → memory s ≡ memory u → summary_of s ≡ summary_of u
summary_same s u file fields known = λ i. record {
  cluster = (file i).cluster;
  layout = (file i).layout;
  sequence = (fields i).sequence;
  checkpoint_op = (fields i).op;
  head = (known i).head;
  replies = (known i).replies;
  sessions = count i;
  references = length (known i).blocks.durable;
}
  where
    count : length s.table.sessions ≡ length u.table.sessions
    count = sym (length_sessions s.table.sessions) ∙ ap (λ (m : Memory). length m.sessions) known ∙ length_sessions u.table.sessions

-- ---- the law

module _ (layout : Layout) (image : Image) (s u : Survey) (one : IsOpened layout image s.state)
    (one_mends : IsMendable layout image s) (other : IsOpened layout image u.state) (other_mends : IsMendable layout image u) where
  fields : s.state.fields ≡ u.state.fields
  fields = one_super image s.state.fields u.state.fields (super_shown layout image s.state one) (super_shown layout image u.state other)

  file : s.state.file ≡ u.state.file
  file = same_file s.state.file u.state.file (one.of.layout_is ∙ sym other.of.layout_is)
      (sym one.has.cluster ∙ ap (λ (f : SuperFields). f.cluster) fields ∙ other.has.cluster) (one.of.version_is ∙ sym other.of.version_is)

  view : one.view ≡ other.view
  view = one_found_law (shape s.state.file) (unit_at layout s.state.file.cluster image) one.view other.view one.found
      (rw (sym file) at other.found)

  first : DataFile → View → Memory
  first f v = memory_of (shape f) (spelling f) (opened (shape f) (unit_at layout f.cluster image) v)

  known : memory s.state ≡ memory u.state
  unfolding first
  known = one.stands ∙ ap (λ (v : View). first s.state.file v) view ∙ ap (λ (f : DataFile). first f other.view) file ∙ sym other.stands

  sessions : sessions_of s.state.table.sessions ≡ sessions_of u.state.table.sessions
  sessions = ap (λ (m : Memory). m.sessions) known

  summary : summary_of s.state ≡ summary_of u.state
  summary = summary_same s.state u.state file fields known

  lines : each_text session_text 0 s.state.table.sessions ≡ each_text session_text 0 u.state.table.sessions
  lines = texts_same 0 s.state.table.sessions u.state.table.sessions sessions (ap (λ (m : Memory). m.stored) known)

  contents : one_mends.choice.content ≡ other_mends.choice.content
  contents = one_law (content_at image) one_mends.choice.content other_mends.choice.content one_mends.choice.is other_mends.choice.is

  mends : s.mends ≡ u.mends
  mends = one_mends.mends ∙ mends_same layout image
      s.state.fields u.state.fields s.state.head u.state.head s.chosen.members u.chosen.members fields (ap (λ (m : Memory). m.head) known)
      (members_same image one_mends.choice.content
      other_mends.choice.content s.chosen.members u.chosen.members contents one_mends.choice.members other_mends.choice.members)
      ∙ sym other_mends.mends

  report : report_of s ≡ report_of u
  report = ap (λ (x : Summary). summary_text x ++ (line_of (spaced (codes "root") (body_text s.state.root)) ++ (each_text session_text
      0 s.state.table.sessions ++ (each_text (λ place m. mend_text m) 0 s.mends ++ row_text (codes "findings") (length s.mends))))) summary
      ∙ ap (λ (m : Memory). summary_text (summary_of u.state) ++ (line_of (spaced (codes "root") (body_text m.root)) ++ (each_text session_text 0 s.state.table.sessions ++ (each_text (λ place m. mend_text m) 0 s.mends ++ row_text (codes "findings") (length s.mends))))) known
      ∙ ap (λ (l : List ℕ). summary_text (summary_of u.state) ++ (line_of (spaced (codes "root") (body_text u.state.root))
      ++ (l ++ (each_text (λ place m. mend_text m) 0 s.mends ++ row_text (codes "findings") (length s.mends))))) lines
      ∙ ap (λ (l : List Mend). summary_text (summary_of u.state) ++ (line_of (spaced (codes "root") (body_text u.state.root)) ++ (each_text
      session_text 0 u.state.table.sessions ++ (each_text (λ place m. mend_text m) 0 l ++ row_text (codes "findings") (length l))))) mends

  pub same_of : (report_of s ≡ report_of u) × (status_of s.mends ≡ status_of u.mends)
  same_of = (report, ap status_of mends)

pub one_report : OneReport
one_report layout image s u one one_mends other other_mends = same_of layout image s u one one_mends other other_mends
