-- The superblock of a log that has grown records replies of sessions that had theirs, where that of its first image did.
use Rattle.std.{proofs.{Common.{◌≡◌, inl, inr, ℕ, ◌+◌, ◌-◌, ◌<◌, ◌≤◌, List, [], ◌∷◌, drop, slice_index, Option, Some, None, refl, sym, ◌∙◌, ap, arith}, lemmas.Bool.{cases_lt}}, specs.List.{slice_get}}
use Rattle.df_theory.{specs.{Grown.{Grows}, Holds.{Holds, Sound}, Next.{Append, Boot, Finish, Next, Records, Reply, Same, checkpointed}, Sessions.{sessions_after}, Shape.{Shape}, UnitLog.{Stopped, Synced, UnitEvent, Wrote, now_of, settled_of}, Units.{Content, Message, Session, Units}, View.{View, head, sessions}}, proofs.Laws.{grows_sound, sessions-append, sessions-drop}}
use Rattle.df_lifetime.{specs.Mirrored.{RecordsReplies}, proofs.Next.{old_session, same_op}}

-- ---- one step

-- a content that records a view has checksums of replies that are stored
some_stored : (u : View) (d : Content) → Records u d
    → (k : ℕ) → 0 < slice_index d.reply_checksums k → (o : Option Message) → u.stored k ≡ o → (r : Message) × (u.stored k ≡ Some r)
some_stored u d records k some None none = absurd (omega (arith, some, records.unstored k none))
some_stored u d records k some (Some r) is = (r, is)

-- so these sessions had theirs
pub recorded_low : (sh : Shape) (u : View) (d : Content) → Sound sh u
    → Records u d → (k : ℕ) (s : Session) → slice_get (sessions u) k ≡ Some s → 0 < slice_index d.reply_checksums k → s.op ≤ u.replies
recorded_low sh u d sound records k s at some = let r = some_stored u d records k some (u.stored k) refl in
    let is = sound.answered k r.0 r.1 in omega (arith, is.2, same_op is.0 s (sym is.1 ∙ at))

records_step : (sh : Shape) (u v : View) → Sound sh u → Next u v → RecordsReplies u → RecordsReplies v
records_step sh u _ sound Same were = were
records_step sh u _ sound (Append ps is) were = λ k s at some. let split : slice_get (sessions_after (sessions u) ps) k ≡ Some s =
    ap (λ (ss : List Session). slice_get ss k) (sym (sessions-append u.checkpoint.parts.sessions u.tail ps)) ∙ at in
    elim (cases_lt (head u) s.op) [
      | inl above ↦ inr (omega (arith, above, sound.records.pin_to))
      | inr not ↦ were k s (old_session ps (head u + 1) _ (head u) (sessions u) is.turn (omega arith) k s split (omega arith)) some
    ]
records_step sh u _ sound (Reply place r is) were =
    λ k s at some. elim (were k s at some) [ inl low ↦ inl (omega arith) | inr above ↦ inr above ]
records_step sh u _ sound (Finish c is) were = λ k s at some. let sessions_are : sessions (checkpointed u c) ≡ sessions u =
    ap (λ (ss : List Session). sessions_after ss (drop (c.content.op - u.checkpoint.content.op) u.tail)) is.sessions
    ∙ sessions-drop (c.content.op - u.checkpoint.content.op) u.checkpoint.parts.sessions u.tail in
    inl (recorded_low sh u c.content sound is.records k s (ap (λ (ss : List Session). slice_get ss k) (sym sessions_are) ∙ at) some)
records_step sh u _ sound (Boot d is) were = λ k s at some. inl (recorded_low sh u d sound is.records k s at some)

-- ---- all of them

-- the oldest of the images
abbrev pub EndsIn : Units → List Units → Type 0
EndsIn start [] = ⊥
EndsIn start (image ∷ []) = image ≡ start
EndsIn start (image ∷ before ∷ images) = EndsIn start (before ∷ images)

ends_more : (image start : Units) (images : List Units) → EndsIn start images → EndsIn start (image ∷ images)
ends_more image start [] ends = absurd ends
ends_more image start (before ∷ images) ends = ends

pub ends_settled : (start : Units) (es : List UnitEvent) → EndsIn start (settled_of start es)
ends_settled start [] = refl
ends_settled start ((Wrote touches stands after) ∷ es) = ends_settled start es
ends_settled start (Synced ∷ es) = ends_more (now_of start es) start (settled_of start es) (ends_settled start es)
ends_settled start ((Stopped after) ∷ es) = ends_more after start (settled_of start es) (ends_settled start es)

module _ (sh : Shape) (start : Units) (begun : (w : View) → Holds sh start w → RecordsReplies w) where
  pub grows_records : (images : List Units) (v : View) → Grows sh images v → EndsIn start images → RecordsReplies v
  grows_records [] v grows ends = absurd grows
  grows_records (image ∷ []) v (holds, inl begins) ends = begun v (rw ends at holds)
  grows_records (image ∷ []) v (holds, inr (history, (u, goes, grows))) ends = absurd grows
  grows_records (image ∷ before ∷ images) v (holds, inl begins) ends = λ k s at some. absurd (omega (arith, some, begins.0.content.named k))
  grows_records (image ∷ before ∷ images) v (holds, inr (history, (u, goes, grows))) ends =
      records_step sh u v (grows_sound sh (before ∷ images) u grows) goes.next (grows_records (before ∷ images) u grows ends)
