-- A file's log that goes along with a disk: after the same events, at the same moments, and with the same answers by then.
use Rattle.std.proofs.{Common.{◌≡◌, ℕ, zero, suc, List, [], ◌∷◌, ◌++◌, append_assoc, Option, Some, None, refl, sym, ◌∙◌, ap, subst}, lemmas.List.{append_cancel_right}}
use Rattle.df_base.{specs.{Log.{Event, Sync, after_event}, Moments.{Extends, IsMoment}}, proofs.Laws.{same_log}}
use Rattle.{df_disk.specs.Told.{Told, did}, df_lifetime.specs.Life.{GoesAlong}}
use Rattle.df_session.{specs.{Below.{State as Replica, told_after}, Session.{Act, Exchange}, Acknowledging.{HadAnswers, HadReturned, WereAnswered}, Keeping.{over}, Links.{AreCalls, CallsMade, EndsCalls, More, NoCalls}}, proofs.Laws.{added_is_told}}

-- ---- events

pub along_on : (t u n b c m : Told) → GoesAlong t u b c → GoesAlong u n c m → GoesAlong t n b m
along_on t u n b c m one two = record {
  shown = one.shown;
  events = two.events ++ one.events;
  disk = two.disk ∙ ap (λ (l : List Event). two.events ++ l) one.disk ∙ sym (append_assoc two.events one.events t.log.events);
  file = two.file ∙ ap (λ (l : List Event). two.events ++ l) one.file ∙ sym (append_assoc two.events one.events b.log.events);
  start = two.start ∙ one.start;
  shows = two.shows;
}

one_along : (e : Event) (t b : Told) → b.shown ≡ t.shown → GoesAlong t (did e t) b (did e b)
one_along e t b same = record { shown = same; events = e ∷ []; disk = refl; file = refl; start = refl; shows = ap (after_event e) same }

-- what both tell after the same events
pub after_along : (es : List Event) (t b : Told) → b.shown ≡ t.shown → GoesAlong t (told_after es t) b (told_after es b)
after_along [] t b same = record { shown = same; events = []; disk = refl; file = refl; start = refl; shows = same }
after_along (e ∷ es) t b same = along_on t (did e t) (told_after es (did e t))
    b (did e b) (told_after es (did e b)) (one_along e t b same) (after_along es (did e t) (did e b) (ap (after_event e) same))

-- it goes on from what it was
pub grows : (es : List Event) (t : Told) → Extends (told_after es t).log t.log
grows es t = let own = after_along es t t refl in (own.events, own.file, own.start)

-- ---- moments

module _ (t p n b m e : Told) (all : GoesAlong t n b e) (part : GoesAlong t p b m) where
  -- what goes on from a moment of the disk goes on from one of the log
  pub extends_along : Extends n.log p.log → Extends e.log m.log
  extends_along until = let both : all.events ++ t.log.events ≡ (until.0 ++ part.events) ++ t.log.events =
      sym all.disk ∙ until.1 ∙ ap (λ (l : List Event). until.0 ++ l) part.disk ∙ sym (append_assoc until.0 part.events t.log.events) in
      let same : all.events ≡ until.0 ++ part.events = append_cancel_right all.events (until.0 ++ part.events) t.log.events both in
      (until.0, all.file ∙ ap (λ (l : List Event). l ++ b.log.events) same ∙ append_assoc until.0 part.events b.log.events ∙ ap (λ (l : List Event). until.0 ++ l) (sym part.file), all.start ∙ sym part.start)

  pub moment_along : Extends n.log p.log → IsMoment b.log e.log m.log
  moment_along until = record { since = (part.events, part.file, part.start); until = extends_along until }

-- it comes to one end
pub one_end : (t n b m e : Told) → GoesAlong t n b e → GoesAlong t n b m → e ≡ m
one_end t n b m e one two =
    let same : one.events ≡ two.events = append_cancel_right one.events two.events t.log.events (sym one.disk ∙ two.disk) in
    let log : e.log ≡ m.log =
    same_log e.log m.log (one.file ∙ ap (λ (l : List Event). l ++ b.log.events) same ∙ sym two.file) (one.start ∙ sym two.start) in
    λ i. record { log = log i; shown = (one.shows ∙ sym two.shows) i }

-- ---- answers

module _ (t p b m : Told) (part : GoesAlong t p b m) where
  returned_along : (k : ℕ) (u c : Told) → GoesAlong t u b c → {s : Replica} {old : Option Told} {xs : List Exchange} {r : Replica} {new : Option Told} (calls : AreCalls s old xs r new) → HadReturned k (Some u) p.log calls → HadReturned k (Some c) m.log calls
  returned_along zero u c from calls since = extends_along t u p b c m part from since
  returned_along (suc k) u c from NoCalls had = absurd had
  returned_along (suc k) u c from (More v mid call rest) had = let es : List Event = call.call.events in
      subst (λ (o : Option Told). HadReturned k o m.log rest) (sym (added_is_told es c)) (returned_along
      k (told_after es u) (told_after es c) (along_on t u (told_after es u) b c (told_after es c) from (after_along es u c from.shows)) rest
      (rw (added_is_told es u) at had))

  had_along : (k : ℕ) (u c : Told) → GoesAlong t u b c → (s r : Replica) (old new : Option Told) (xs : List Exchange)
      (failed : Option Act) (calls : EndsCalls s r old new xs failed) → HadAnswers k (Some u) p.log s r old new xs failed calls
      → HadAnswers k (Some c) m.log s r old new xs failed calls
  had_along k u c from s r old new xs None calls had = returned_along k u c from calls had
  had_along k u c from s r old new xs (Some a) calls had = returned_along k u c from calls.2 had

  -- what was answered by then as the disk tells, after a mending, was as the log does
  pub answered_along : (k : ℕ) (mending : List Event) (c : CallsMade)
      → b.shown ≡ t.shown → WereAnswered k (over mending [] t) p.log c → WereAnswered k (over mending [] b) m.log c
  answered_along k mending c same had = had_along k (told_after mending (did Sync t))
      (told_after mending (did Sync b)) (after_along (Sync ∷ mending) t b same) c.from c.to c.old c.new c.exchanges c.failed c.calls had
