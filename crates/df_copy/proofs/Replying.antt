-- The replies are copied one after the other, in order of place: what stands after each.
use Rattle.std.{proofs.Common.{◌≡◌, inl, inr, ℕ, suc, ◌+◌, ◌-◌, ◌<◌, ◌≤◌, Bool, List, [], ◌∷◌, ◌++◌, length, Option, Result, Ok, Err, refl, sym, ◌∙◌, ap, arith}, specs.Prelude.{nat_lt, slice_set}}
use Rattle.{df_disk.specs.Told.{Told}, df_base.{specs.Log.{Event}, proofs.Laws.{minus_zero}}, df_format.specs.Message.{Message}}
use Rattle.{df_layout.specs.declared.{damage.Class.{Class}, layout.Layout.{Layout}}, df_sessions.specs.Table.{AreDistinctClients}}
use Rattle.df_theory.specs.Units as units
use Rattle.{df_units.specs.Meaning.{message_of}, df_opening.specs.Below.{State, memory}}
use Rattle.df_model.specs.{Making.{named_places}, Memory.{reply_sum}, Refusals.{first_refusal}, Supply.{Shown, reply_at}}
use Rattle.df_copy.{specs.{declared.ending.Ending.{Ending}, declared.ending.Ending.TheVariants.{ReplyTooLong}, Acts.{Beside, CopiesReplies, CopiesReply, FitReplies, FitsReply, LeavesSource}, Targets.{checks_of}, Tests.{reply_test, reply_tests, reply_tests_from}, Units.{IsReplyAt, OverShown, all_events, reply_events}}, proofs.{Listed.{checks_push, events_push, over_all, over_by, push_cases, push_length}, Planning.{how_many}, Turns.{AreWritten, at_entry, turn_on, turn_stops, turns_end}}}

fit_push : (layout : Layout) (s : State) (from : Option Told) (rs : List Message) (n : ℕ)
    → length rs ≡ n → FitReplies layout s from rs → (r : Message) → FitsReply layout s from n r → FitReplies layout s from (rs ++ r ∷ [])
fit_push layout s from rs n count are r one = record {
  are = record {
    each = λ k u at. elim (push_cases rs r k u at) [
      | inl there ↦ are.are.each k u there
      | inr last ↦ rw (sym (last.0 ∙ count)) at (rw last.1 at one.is)
    ];
  };
  fit = λ k u at. elim (push_cases rs r k u at) [
    | inl there ↦ are.fit k u there
    | inr last ↦ rw last.1 at one.fits
  ];
}

-- the tests of the places from this one on
abbrev left_from : Layout → State → ℕ → Shown → List (Bool × Ending)
left_from layout s n shown = reply_tests_from layout shown (memory s) n (length (memory s).sessions - n)

-- the replies of the first n places are written
pub record IsReplying (layout : Layout) (s : State) (now : List (List ℕ)) (from old new : Option Told) (n : ℕ) : Type 0 where
  pub rs : List Message
  pub count : length rs ≡ n
  pub checks : now ≡ checks_of rs
  pub written : AreWritten s.file from (FitReplies layout s from) (all_events (reply_events layout)) (λ shown.
      reply_tests layout shown (memory s)) (left_from layout s n) old new rs

module _ (layout : Layout) (s : State) (from old : Option Told) where
  abbrev all_tests : Shown → List (Bool × Ending)
  all_tests shown = reply_tests layout shown (memory s)

  abbrev Fit : List Message → Type 0
  Fit rs = FitReplies layout s from rs

  abbrev events : List Message → List Event
  events rs = all_events (reply_events layout) rs

  pub replying_none : (now : List (List ℕ)) → now ≡ checks_of [] → IsReplying layout s now from old old 0
  replying_none now none = record {
    rs = [];
    count = refl;
    checks = none;
    written = record {
      fit = record { are = record { each = λ k u at. absurd (cc) }; fit = λ k u at. absurd (cc) };
      added = refl;
      decide = over_all s.file from (λ shown. first_refusal (all_tests shown) ≡ first_refusal (left_from layout s 0 shown)) (λ shown.
          ap (λ (n : ℕ). first_refusal (reply_tests_from layout shown (memory s) 0 n)) (minus_zero (length (memory s).sessions)));
    };
  }

  module _ (now : List (List ℕ))
      (new : Option Told) (n : ℕ) (less : n < length (memory s).sessions) (is : IsReplying layout s now from old new n) where
    -- the test of the next place, and those after it
    abbrev test : Shown → Bool × Ending
    test shown = reply_test layout n (reply_at shown (reply_sum (memory s) n) n)

    next : (shown : Shown) → left_from layout s n shown ≡ test shown ∷ left_from layout s (n + 1) shown
    next shown = ap (λ (k : ℕ). reply_tests_from layout shown (memory s) n k) one_more
      where
        one_more : length (memory s).sessions - n ≡ suc (length (memory s).sessions - (n + 1))
        one_more = omega (arith, less)

    abbrev push : (r : Message) → FitsReply layout s from n r → FitReplies layout s from (is.rs ++ r ∷ [])
    push r one = fit_push layout s from is.rs n is.count is.written.fit r one

    more : (x : Unit {0}) (behind : List (List ℕ)) (newer : Option Told)
        → n < named_places → CopiesReply layout n s now behind from new newer (Ok x) → IsReplying layout s behind from old newer (n + 1)
    more x behind newer inside copies = let r : Message = copies.0 in record {
      rs = is.rs ++ r ∷ [];
      count = push_length is.rs r n is.count;
      checks = copies.3 ∙ ap (λ (l : List (List ℕ)). slice_set l n r.header.checksum) is.checks
          ∙ ap (λ (k : ℕ). slice_set (checks_of is.rs) k r.header.checksum) (sym is.count)
          ∙ sym (checks_push is.rs r (rw (sym is.count) at inside));
      written = turn_on s.file from Fit events all_tests old (left_from layout s n) new is.rs is.written test
          (left_from layout s (n + 1)) next (FitsReply layout s from n) (reply_events layout) push (events_push (reply_events layout) is.rs)
          r newer layout.message_size
          (256 + length r.body) (ReplyTooLong n (256 + length r.body)) copies.1 copies.2 copies.1.fits (tested r copies.1);
    }
      where
        tested : (r : Message) → FitsReply layout s from n r → OverShown s.file from (λ shown.
            test shown ≡ (nat_lt layout.message_size (256 + length r.body), ReplyTooLong n (256 + length r.body)))
        tested r one = over_by s.file from (λ shown. reply_at shown (reply_sum (memory s) n) n ≡ Ok (message_of r)) (λ shown.
            test shown ≡ (nat_lt layout.message_size (256 + length r.body), ReplyTooLong n (256 + length r.body))) one.is.shown
            (λ shown there. ap (λ (x : Result units.Message Class). reply_test layout n x) there)

    ends : (behind all : List (List ℕ)) (newer : Option Told) (e : Ending) → CopiesReply {T = Unit {0}}
        layout n s now behind from new newer (Err e) → CopiesReplies {T = Unit {0}} layout s all from old newer (Err e)
    ends behind all newer e stops =
        turn_stops s.file from Fit events all_tests old (left_from layout s n) new is.rs is.written test (left_from layout s (n + 1))
        next (FitsReply layout s from n) (reply_events layout) push (events_push (reply_events layout) is.rs) newer e stops

  -- after the last place all are written, and no test holds
  pub replying_all : {T : Type 0} (x : T) (now : List (List ℕ)) (new : Option Told) (n : ℕ)
      → n ≡ length s.table.sessions → IsReplying layout s now from old new n → CopiesReplies layout s now from old new (Ok x)
  replying_all x now new n all is = (is.rs, is.written.fit, is.count ∙ all, is.written.added, is.checks, turns_end s.file from Fit events all_tests old (left_from layout s n) new is.rs is.written none)
    where
      past : length (memory s).sessions - n ≡ 0
      past = omega (arith, all, how_many s.file.layout s)

      none : (shown : Shown) → left_from layout s n shown ≡ []
      none shown = ap (λ (k : ℕ). reply_tests_from layout shown (memory s) n k) past

-- ---- a turn of the loop, in which the source and the layout are as they were at the entry

module _ {layout l : Layout} {at kept : Beside} {x : Unit {0}} {old new : Option Told} {now : List (List ℕ)} {n : ℕ}
    (same : l ≡ layout) (leaves : LeavesSource at kept (Ok x)) (less : n < length at.source.table.sessions)
    (is : IsReplying layout at.source now at.told old new n)
    (apart : AreDistinctClients at.source.table.sessions) (behind : List (List ℕ)) (newer : Option Told) where
  inside : n < length (memory at.source).sessions
  inside = omega (arith, less, how_many at.source.file.layout at.source)

  entered : (r : Result (Unit {0}) Ending) → (AreDistinctClients kept.source.table.sessions
      → CopiesReply l n kept.source now behind kept.told new newer r) → CopiesReply layout n at.source now behind at.told new newer r
  entered r copies = at_entry (λ (k : Layout) (q : State) (o : Option Told). AreDistinctClients q.table.sessions
      → CopiesReply k n q now behind o new newer r) layout l same leaves copies apart

  pub replying_more : n < named_places → (y : Unit {0}) → (AreDistinctClients kept.source.table.sessions
      → CopiesReply l n kept.source now behind kept.told new newer (Ok y)) → IsReplying layout at.source behind at.told old newer (n + 1)
  replying_more few y copies = more layout at.source at.told old now new n inside is y behind newer few (entered (Ok y) copies)

  pub replying_ends : (e : Ending) → (AreDistinctClients kept.source.table.sessions → CopiesReply {T = Unit {0}} l
      n kept.source now behind kept.told new newer (Err e)) → CopiesReplies {T = Unit {0}} layout at.source behind at.told old newer (Err e)
  replying_ends e copies = ends layout at.source at.told old now new n inside is behind behind newer e (entered (Err e) copies)
