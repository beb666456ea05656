-- In a run each known unit that is shown stays shown, by the log that begins after its barrier.
use Rattle.std.{proofs.Common.{◌≡◌, ℕ, List, [], ◌∷◌, ◌++◌, Option, Some, None, refl, sym, ◌∙◌, ap, append_assoc, append-nil, inl, inr}, specs.Prelude.{Result, Ok, Err}}
use Rattle.df_base.{specs.{Image.{Image, IsImage, written}, Log.{Event, Log, Sync}, Moments.{EachMoment, Extends}}, proofs.Laws.{extends_on}}
use Rattle.df_disk.{specs.{Adds.{AddsPart, after_all}, Told.{Told, after, did}}, proofs.Laws.{after_append}}
use Rattle.{df_theory.specs.Units.{Content}, df_units.specs.Bytes.{first_at}, df_damage.specs.Anew.{restarted, told_after}}
use Rattle.df_opening.specs.Below.{DataFile}
use Rattle.df_mirror.{specs.{declared.ending.Ending.{Ending}, declared.ending.Ending.TheVariants.{First, Neither, Second, Sink, Unopened}, Laws.{KeepsKnown, LeavesKnownShown, RunKeepsKnown}, Mends.{AnswersMending, AreInOrder, AreMends, Came, Failed, FailsAt, IsMend, Mend, mirrored_events, under_way}, Walks.{content_of_superblock}}, proofs.{Joined.{after_told, events_append, told_append}, Stays.{known_stays, told_extends}}}

-- mends of what a disk shows are mends of what another one shows that shows the same
pub mends_alike : (file : DataFile) (c : Content) (second : Image) (t u : Told) (ms : List Mend)
    → u.shown ≡ t.shown → AreMends file c second t ms → AreMends file c second u ms
mends_alike file c second t u [] same are = tt
mends_alike file c second t u (m ∷ ms) same are = (
  rw (sym same) at are.0,
  mends_alike file c second (told_after (mirrored_events file (m ∷ [])) t) (told_after (mirrored_events file (m ∷ [])) u)
      ms (ap (λ (image : Image). written (first_at file.layout m.place) m.bytes image) same) are.1,
)

-- a part of events, and what follows it
record IsCut (es : List Event) (old new : Option Told) : Type 0 where
  part : List Event
  rest : List Event
  both : es ≡ part ++ rest
  is : new ≡ after_all part old

cut_of : (es : List Event) (old new : Option Told) → AddsPart es old new → IsCut es old new
cut_of [] old new is = record { part = []; rest = []; both = refl; is = is }
cut_of (e ∷ es) old new (inl is) = record { part = []; rest = e ∷ es; both = refl; is = is }
cut_of (e ∷ es) old new (inr more) = let there = cut_of es (after e old) new more in
    record { part = e ∷ there.part; rest = there.rest; both = ap (λ (l : List Event). e ∷ l) there.both; is = there.is }

module _ (file : DataFile) (c : Content) (second : Image) (t : Told) (whole : IsImage t.shown) (ms last : List Mend)
    (are : AreMends file c second (did Sync t) (ms ++ last)) (part rest : List Event) (cut : mirrored_events file last ≡ part ++ rest) where
  there : AreMends file c second (restarted t) (ms ++ last)
  there = mends_alike file c second (did Sync t) (restarted t) (ms ++ last) refl are

  each : (front back : List Mend) (u : Told) → ms ≡ front ++ back → u ≡ told_after (mirrored_events file front) (restarted t)
      → EachMoment u.log (told_after (mirrored_events file back ++ part) u).log (LeavesKnownShown file c u.shown)
  each front back u split is = let all : AreMends file c second (restarted t) (front ++ (back ++ last)) =
      rw (ap (λ (l : List Mend). l ++ last) split ∙ append_assoc front back last) at there in
      let long : EachMoment u.log (told_after (mirrored_events file (back ++ last)) u).log (LeavesKnownShown file c u.shown) =
      known_stays file c second (restarted t) u front (back ++ last) (record { shows = λ sector. refl }) (λ sector. refl) whole all is in
      let es : List Event = mirrored_events file back ++ part in
      let join : mirrored_events file (back ++ last) ≡ es ++ rest = events_append file back last
      ∙ ap (λ (l : List Event). mirrored_events file back ++ l) cut ∙ sym (append_assoc (mirrored_events file back) part rest) in
      let exit : Log = (told_after es u).log in let longer : Extends (told_after (mirrored_events file (back ++ last)) u).log exit =
      rw (sym (ap (λ (l : List Event). told_after l u) join ∙ told_append es rest u)) at (told_extends rest (told_after es u)) in
      λ log moment. long log (record { since = moment.since; until = extends_on (told_after (mirrored_events file (back ++ last)) u).log exit log longer moment.until })

  pub keeps : (new : Option Told) → new ≡ after_all part (Some (told_after (mirrored_events file ms) (did Sync t))) → KeepsKnown file c t new
  keeps new is = record {
    mends = ms;
    part = part;
    told = is ∙ ap (λ (x : Option Told). after_all part x) (sym (after_told (mirrored_events file ms) (did Sync t)))
        ∙ sym (after_append (mirrored_events file ms) part (Some (did Sync t)));
    moments = each;
  }

module _ (file : DataFile) (c : Content) (t o : Told) (whole : IsImage t.shown) (new : Option Told) (old text : Option (List ℕ)) where
  came_keeps : (Last : List Mend → Told → Type 0) → Came file c AreInOrder (did Sync t) o new old text Last → KeepsKnown file c t new
  came_keeps Last came = keeps file c o.shown t whole came.mends []
      (rw (sym (append-nil came.mends)) at came.does.are) [] [] refl new (came.after_is ∙ ap (λ (x : Told). Some x) came.does.told)

  failed_keeps : (e : Ending) → Failed file c AreInOrder (did Sync t) o new old text e → KeepsKnown file c t new
  failed_keeps e failed = by failed.one failed.are e failed.fails
    where
      by : (one : Option Mend) → AreMends file c o.shown (did Sync t) (failed.mends ++ under_way one) → (e : Ending)
          → FailsAt file e one (told_after (mirrored_events file failed.mends) (did Sync t)) new failed.said text → KeepsKnown file c t new
      by None are First fails = keeps file c o.shown t whole failed.mends [] are [] [] refl new fails.0
      by None are Second fails = keeps file c o.shown t whole failed.mends [] are [] [] refl new fails.0
      by None are Sink fails = absurd fails
      by None are (Unopened e) fails = absurd fails
      by None are (Neither place class) fails = absurd fails
      by (Some m) are First fails =
          let cut = cut_of (mirrored_events file (m ∷ [])) (Some (told_after (mirrored_events file failed.mends) (did Sync t))) new fails.0 in
          keeps file c o.shown t whole failed.mends (m ∷ []) are cut.part cut.rest cut.both new cut.is
      by (Some m) are Sink fails = keeps file c o.shown t
          whole failed.mends (m ∷ []) are (mirrored_events file (m ∷ [])) [] (sym (append-nil (mirrored_events file (m ∷ [])))) new fails.0
      by (Some m) are Second fails = absurd fails
      by (Some m) are (Unopened e) fails = absurd fails
      by (Some m) are (Neither place class) fails = absurd fails

  pub answers_keep : (result : Result ℕ Ending) → AnswersMending file c AreInOrder (did Sync t) o new old text result → KeepsKnown file c t new
  answers_keep (Ok count) is = came_keeps _ is
  answers_keep (Err (Neither place class)) is = came_keeps _ is
  answers_keep (Err (Unopened e)) is = came_keeps _ is
  answers_keep (Err First) is = failed_keeps First is
  answers_keep (Err Second) is = failed_keeps Second is
  answers_keep (Err Sink) is = failed_keeps Sink is

pub run_keeps : RunKeepsKnown
run_keeps t o old new status is tell = answers_keep is.base.file
    (content_of_superblock is.base) t o tell.whole new.first old.written is.mirrored.text is.mirrored.result is.mirrored.answers
