-- Lines of the log: what they print and what they change is a function of what is told.
use Rattle.std.{proofs.{Common.{◌≡◌, ℕ, ◌+◌, ◌-◌, ◌^◌, ◌%◌, ◌==◌, ◌&&◌, ◌||◌, not, nat_lt, nat_le, Bool, true, false, if◌then◌else◌, codes, List, [], ◌∷◌, ◌++◌, length, Option, Some, None, Result, Ok, Err, refl, sym, ◌∙◌, ap, subst, arith, length-append}, lemmas.List.{take-append-le}, lemmas.Bool.Decides.{nat_tests}}, specs.List.{slice_get}}
use Rattle.df_layout.specs.{declared.damage.Class.{Class}, declared.places.Zone.TheVariants.{ClientReplies}}
use Rattle.df_theory.specs.{Units.{AnyUnit, Message, PreparePlace, PrepareUnit, ReplyPlace, ReplyUnit, Session, Units, or_else, overlay}, Sessions.{session_of_header, sessions_after}, Shape.{Shape}, View.{View, head, sessions}, Next.{appended, kept, replied}, UnitLog.{put_one}}
use Rattle.df_model.{specs.{Work.{Request, Running, Work}, Memory.{Memory, joined, memory_of, message_room, reply_sum, stored_sum}, Refusals.{append_refusals, first_refusal, flush_refusals, is_last_request, is_new, last_op, next_request, reply_refusals, session_of_client, stage_refusals}, Making.{client_of, group_of, place_of_op, place_of_reply, prepare_of, reply_of, request_of}, After.{outcome, place_of_client, shown_or, with_group, with_prepare, with_reply, with_staged}, Commands.{Append, Command, Flush, ReadReply, Reply, Stage, ToAppend, ToFlush, ToReadReply, ToReply, ToStage}, Supply.{Codec, Shown, checksums_given, class_or, group_puts, reply_at, reply_given, unless}, declared.errors.AppendError.{AppendError}, declared.errors.FlushError.{FlushError}, declared.errors.ReplyError.{ReplyError}, declared.reading.LookupError.{LookupError}}, proofs.Laws.{length_in, place_known}}
use Rattle.df_model.specs.declared.errors.AppendError.TheVariants as append
use Rattle.df_model.specs.declared.errors.FlushError.TheVariants as flush
use Rattle.df_model.specs.declared.errors.ReplyError.TheVariants as reply
use Rattle.df_model.specs.declared.reading.LookupError.TheVariants as lookup
use Rattle.df_script_model.specs.{Script.{answer_text}, Texts.{append_refusal, flush_refusal, line_of, lookup_refusal, message_text, numbered, reply_refusal, text_or}}
use Rattle.df_pace.{specs.{declared.pace.Pace.{Pace}, Loop.{Stand, answer_at, answered, by_script, ended, passed}, Laws.{EachOf, IsNotFull, IsOfLog, PacingLaw, bare_texts, is_full, is_ring_full, unnumbered}}, proofs.{Told.{Goes, IsOnItsWay, Told, behind_stays, plainly, read_of, told, told_at}, Replies.{asked_all, get_mapped, kept_read, put_session, puts_aside, read_kept, read_new, sessions_all, sessions_group, sessions_more}}}

-- ---- refusals

abbrev told_or : {E : Type 0} → Option E → Told → Told → Told
told_or (Some e) t u = t
told_or None t u = u

-- the tests of a request before that of the ring, and that after it
abbrev tests_before : Shape → Told → (client request : ℕ) → List ℕ → List (Bool × AppendError)
tests_before sh t client request body = let session = session_of_client client t.sessions in (client == 0, append.ClientZero)
    ∷ (nat_lt (message_room sh.layout) (length body), append.BodyTooLong (message_room sh.layout))
    ∷ (is_new session && (length t.sessions == sh.layout.clients), append.ClientsFull sh.layout.clients)
    ∷ (is_last_request request session && nat_le (last_op session) t.replies, append.Repeated (last_op session))
    ∷ (nat_lt t.replies (last_op session), append.ReplyPending (last_op session))
    ∷ (not (request == next_request session), append.RequestOrder (next_request session))
    ∷ (t.head - t.replies == 8, append.PipelineFull (t.head - t.replies)) ∷ []

abbrev tests_behind : Told → (request : ℕ) → List (Bool × AppendError)
tests_behind t request = ((t.head == 2 ^ 62) || nat_lt (2 ^ 62) request, append.OpsSpent) ∷ []

abbrev is_staged : Told → Bool
is_staged t = nat_lt 0 (length t.staged)

-- and what is staged comes before what is appended
abbrev told_append_refusal : Shape → Told → (client request : ℕ) → List ℕ → Option AppendError
told_append_refusal sh t client request body =
    first_refusal (tests_before sh t client request body ++ (tests_behind t request ++ (is_staged t, append.Staged (length t.staged)) ∷ []))

-- with these sessions, as if what is staged were appended
abbrev counted_with : Told → List Session → Told
counted_with t ss = record t { head = t.head + length t.staged; sessions = ss }

abbrev told_stage_refusal_with : Shape → Told → (client request : ℕ) → List ℕ → List Session → Option AppendError
told_stage_refusal_with sh t client request body ss =
    first_refusal (tests_before sh (counted_with t ss) client request body ++ tests_behind (counted_with t ss) request)

abbrev told_stage_refusal : Shape → Told → (client request : ℕ) → List ℕ → Option AppendError
told_stage_refusal sh t client request body = told_stage_refusal_with sh t client request body (asked_all (t.head + 1) t.staged t.sessions)

abbrev told_flush_refusal : Told → Option FlushError
told_flush_refusal t = first_refusal ((not (is_staged t), flush.NothingStaged) ∷ [])

abbrev says_full : Option AppendError → Bool
says_full None = false
says_full (Some e) = is_ring_full e

-- a test that isn't the one that holds may be left out
without_ring : (ts : List (Bool × AppendError)) (b : Bool) (op checkpoint_op : ℕ) (more : List (Bool × AppendError))
    → says_full (first_refusal (ts ++ (b, append.WalFull op checkpoint_op) ∷ more)) ≡ false
    → first_refusal (ts ++ (b, append.WalFull op checkpoint_op) ∷ more) ≡ first_refusal (ts ++ more)
without_ring [] true op checkpoint_op more free = absurd (cc)
without_ring [] false op checkpoint_op more free = refl
without_ring ((true, e) ∷ ts) b op checkpoint_op more free = refl
without_ring ((false, e) ∷ ts) b op checkpoint_op more free = without_ring ts b op checkpoint_op more free

full_is : (o : Option AppendError) (w u : Work) (answer : ℕ × ℕ) → is_full (ToAppend (outcome o w u answer).1) ≡ says_full o
full_is (Some e) w u answer = refl
full_is None w u answer = refl

stage_full_is : (o : Option AppendError) (w u : Work) (op : ℕ) → is_full (ToStage (outcome o w u op).1) ≡ says_full o
stage_full_is (Some e) w u op = refl
stage_full_is None w u op = refl

abbrev told_reply_refusal : Shape → Told → (op : ℕ) → List ℕ → Option ReplyError
told_reply_refusal sh t op body =
    first_refusal ((t.replies == t.head, reply.NothingPending t.head) ∷ (not (op == t.replies + 1), reply.ReplyOrder (t.replies + 1))
    ∷ (nat_lt (message_room sh.layout) (length body), reply.BodyTooLong (message_room sh.layout)) ∷ [])

abbrev told_lookup_refusal : Told → (client : ℕ) → Option LookupError
told_lookup_refusal t client = let session = session_of_client client t.sessions in
    first_refusal ((is_new session, lookup.NoClient) ∷ (nat_lt t.replies (last_op session), lookup.ReplyPending (last_op session)) ∷ [])

-- ---- what a line changes

abbrev told_append : Told → (client request : ℕ) → Told
told_append t client request = let ss = put_session (record { client = client; request = request; op = t.head + 1 }) t.sessions in
    record { head = t.head + 1; replies = t.replies; sessions = ss; staged = t.staged; reads = λ k. kept_read (slice_get ss k) t.head (t.reads k) }

abbrev told_stage : Told → Request → Told
told_stage t r = record t { staged = t.staged ++ r ∷ [] }

abbrev told_flush : Told → Told
told_flush t = let ss = asked_all (t.head + 1) t.staged t.sessions in
    record { head = t.head + length t.staged; replies = t.replies; sessions = ss; staged = []; reads = λ k. kept_read (slice_get ss k) t.head (t.reads k) }

abbrev told_next_reply : Told → List ℕ → Message
told_next_reply t body = let session = slice_get t.sessions (place_of_op (t.replies + 1) t.sessions) in record {
  header = record { checksum = 0; parent = 0; client = client_of session; op = t.replies + 1; request = request_of session; mark = t.head; checkpoint = 0; boot = 0; group = t.replies + 1; group_last = t.replies + 1 };
  body = body;
}

abbrev told_reply : Told → List ℕ → Told
told_reply t body = record { head = t.head; replies = t.replies + 1; sessions = t.sessions; staged = t.staged; reads = λ k. if k == place_of_op (t.replies + 1) t.sessions then Ok (told_next_reply t body) else t.reads k }

abbrev told_after : Shape → Told → Command → Told
told_after sh t (Append client request body) = told_or (told_append_refusal sh t client request body) t (told_append t client request)
told_after sh t (Stage client request body) =
    told_or (told_stage_refusal sh t client request body) t (told_stage t (record { client = client; request = request; body = body }))
told_after sh t Flush = told_or (told_flush_refusal t) t (told_flush t)
told_after sh t (Reply op body) = told_or (told_reply_refusal sh t op body) t (told_reply t body)
told_after sh t c = t

-- ---- and what it prints

-- the refusal's line, or what was done
abbrev said_or : {E : Type 0} → (E → List ℕ) → List ℕ → Option E → List ℕ
said_or refusal done (Some e) = refusal e
said_or refusal done None = done

abbrev append_text : Option AppendError → (op : ℕ) → List ℕ
append_text o op = said_or append_refusal (line_of (numbered (codes "appended") op)) o

abbrev stage_text : Option AppendError → (op : ℕ) → List ℕ
stage_text o op = said_or append_refusal (line_of (numbered (codes "staged") op)) o

abbrev flush_text : Option FlushError → (count : ℕ) → List ℕ
flush_text o count = said_or flush_refusal (line_of (numbered (codes "flushed") count)) o

abbrev reply_text : Option ReplyError → (op : ℕ) → List ℕ
reply_text o op = said_or reply_refusal (line_of (numbered (codes "replied") op)) o

abbrev lookup_text : Option LookupError → (place : ℕ) → Result Message Class → List ℕ
lookup_text o place read = text_or
    lookup_refusal (message_text (codes "reply")) (shown_or o (lookup.Damaged (record { zone = ClientReplies; index = place })) read)

abbrev told_text : Shape → Told → Command → List ℕ
told_text sh t (Append client request body) = append_text (told_append_refusal sh t client request body) (t.head + 1)
told_text sh t (Stage client request body) = stage_text (told_stage_refusal sh t client request body) (t.head + length t.staged + 1)
told_text sh t Flush = flush_text (told_flush_refusal t) (length t.staged)
told_text sh t (Reply op body) = reply_text (told_reply_refusal sh t op body) op
told_text sh t (ReadReply client) = let place = place_of_client client t.sessions in
    lookup_text (told_lookup_refusal t client) place (t.reads place)
told_text sh t c = []

-- ---- one line

-- a line does and prints what is told, and the running checkpoint goes on
record Tells (sh : Shape) (codec : Codec) (x : Stand) (c : Command) : Type 0 where
  pub told : told_at (by_script sh codec x c) ≡ told_after sh (told_at x) c
  pub text : answer_text c (unnumbered (answer_at sh codec x c)) ≡ told_text sh (told_at x) c
  pub goes : Goes (by_script sh codec x c).work

told_outcome : {E A : Type 0} (o : Option E) (shown : Shown) (put : Units) (w u : Work) (answer : A)
    → told (record { units = overlay (unless o put) shown.units; damage = shown.damage }) (outcome o w u answer).0
    ≡ told_or o (told shown w) (told (record { units = overlay put shown.units; damage = shown.damage }) u)
told_outcome (Some e) shown put w u answer = refl
told_outcome None shown put w u answer = refl

stage_outcome : {E A : Type 0} (o : Option E) (shown : Shown) (w u : Work) (answer : A)
    → told shown (outcome o w u answer).0 ≡ told_or o (told shown w) (told shown u)
stage_outcome (Some e) shown w u answer = refl
stage_outcome None shown w u answer = refl

goes_outcome : {E A : Type 0} (o : Option E) (w u : Work) (answer : A) → Goes w → Goes u → Goes (outcome o w u answer).0
goes_outcome (Some e) w u answer before later = before
goes_outcome None w u answer before later = later

append_printed : (c : Command) (o : Option AppendError) (w u : Work) (op sum : ℕ)
    → answer_text c (unnumbered (ToAppend (outcome o w u (op, sum)).1)) ≡ append_text o op
append_printed c (Some e) w u op sum = refl
append_printed c None w u op sum = refl

stage_printed : (c : Command) (o : Option AppendError) (w u : Work) (op : ℕ)
    → answer_text c (unnumbered (ToStage (outcome o w u op).1)) ≡ stage_text o op
stage_printed c (Some e) w u op = refl
stage_printed c None w u op = refl

flush_printed : (c : Command) (o : Option FlushError) (w u : Work) (count : ℕ)
    → answer_text c (unnumbered (ToFlush (outcome o w u count).1)) ≡ flush_text o count
flush_printed c (Some e) w u count = refl
flush_printed c None w u count = refl

reply_printed : (op : ℕ) (body : List ℕ) (o : Option ReplyError) (w u : Work) (sum : ℕ)
    → answer_text (Reply op body) (unnumbered (ToReply (outcome o w u sum).1)) ≡ reply_text o op
reply_printed op body (Some e) w u sum = refl
reply_printed op body None w u sum = refl

-- the running checkpoint captured nothing of a later prepare or reply
way_appended : (v : View) (ps : List Message) (o : Option Running) → IsOnItsWay v o → IsOnItsWay (appended v ps) o
way_appended v ps None way = tt
way_appended v ps (Some r) way = record {
  from = way.from;
  to = omega (arith, way.to, length-append v.tail ps);
  sessions = way.sessions ∙ ap (sessions_after v.checkpoint.parts.sessions)
      (sym (take-append-le (r.op - v.checkpoint.content.op) v.tail ps (omega (arith, way.to))));
}

way_replied : (v : View) (place : ℕ) (r : Message) (o : Option Running) → IsOnItsWay v o → IsOnItsWay (replied v place r) o
way_replied v place r None way = tt
way_replied v place r (Some s) way = record { from = way.from; to = way.to; sessions = way.sessions }

module _ (sh : Shape) (codec : Codec) (x : Stand) (goes : Goes x.work) where
  abbrev w : Work
  w = x.work

  abbrev v : View
  v = x.work.view

  abbrev m : Memory
  m = memory_of sh codec.spell x.work

  abbrev t : Told
  t = told_at x

  -- ---- an append

  append_told : (slot sum client request : ℕ) (body : List ℕ) → let p = prepare_of m sum client request body in
      told (record { units = overlay (put_one (PreparePlace slot) (PrepareUnit p)) x.shown.units; damage = x.shown.damage })
      (with_prepare w p) ≡ told_append t client request
  append_told slot sum client request body = let p = prepare_of m sum client request body in
      let more = sessions_more v.checkpoint.parts.sessions v.tail p in
      let longer : v.checkpoint.content.op + length (v.tail ++ p ∷ []) ≡ head v + 1 = omega (arith, length-append v.tail (p ∷ [])) in
      let reads : (k : ℕ) → plainly (read_of (kept (slice_get (sessions_after v.checkpoint.parts.sessions (v.tail ++ p ∷ [])) k) (head v)
      (v.stored k)) x.shown k) ≡ kept_read (slice_get (put_session (session_of_header p.header) (sessions v)) k) (head v) (t.reads k) =
      λ k. read_kept (slice_get (sessions_after v.checkpoint.parts.sessions (v.tail ++ p ∷ [])) k) (head v) (v.stored k) (x.shown.units
      (ReplyPlace k)) (x.shown.damage (ReplyPlace k)) ∙ ap (λ (ss : List Session). kept_read (slice_get ss k) (head v) (t.reads k)) more in
      λ i. record { head = longer i; replies = v.replies; sessions = more i; staged = w.staged; reads = λ k. reads k i }

  append_tells : (client request : ℕ) (body : List ℕ)
      → IsNotFull (answer_at sh codec x (Append client request body)) → Tells sh codec x (Append client request body)
  append_tells client request body free = let o = first_refusal (append_refusals m client request body) in
      let sum = codec.prepare (prepare_of m 0 client request body) in let p = prepare_of m sum client request body in
      let slot = (head v + 1) % sh.layout.slots in let same : o ≡ told_append_refusal sh t client request body =
      without_ring (tests_before sh t client request body)
      (nat_lt (v.checkpoint.content.op + sh.layout.slots) (head v + 1)) (head v + 1) v.checkpoint.content.op (tests_behind t request
      ++ (is_staged t, append.Staged (length t.staged)) ∷ []) (sym (full_is o w (with_prepare w p) (p.header.op, sum)) ∙ free) in
      record {
        told = told_outcome o x.shown (put_one (PreparePlace slot) (PrepareUnit p)) w (with_prepare w p) (p.header.op, sum)
            ∙ (λ i. told_or (same i) t (append_told slot sum client request body i));
        text = append_printed (Append client request body) o w (with_prepare w p) p.header.op sum
            ∙ ap (λ (e : Option AppendError). append_text e (head v + 1)) same;
        goes = goes_outcome o w (with_prepare w p) (p.header.op, sum) goes (way_appended v (p ∷ []) w.running goes);
      }

  -- ---- a request is staged

  stage_tells : (client request : ℕ) (body : List ℕ)
      → IsNotFull (answer_at sh codec x (Stage client request body)) → Tells sh codec x (Stage client request body)
  stage_tells client request body free = let o = first_refusal (stage_refusals m client request body) in
      let u = with_staged w (record { client = client; request = request; body = body }) in let op = head v + length w.staged + 1 in
      let ss = sessions_after (sessions v) (group_of m []) in let same : o ≡ told_stage_refusal sh t client request body =
      without_ring (tests_before sh (counted_with t ss) client request body) (nat_lt (v.checkpoint.content.op + sh.layout.slots) op)
      op v.checkpoint.content.op (tests_behind (counted_with t ss) request) (sym (stage_full_is o w u op) ∙ free)
      ∙ ap (told_stage_refusal_with sh t client request body)
      (sessions_all m (head v + 1) (head v + length w.staged) (head v + 1) m.head_checksum w.staged [] (sessions v)) in record {
        told = stage_outcome o x.shown w u op ∙ ap (λ (e : Option AppendError). told_or e t (told x.shown u)) same;
        text = stage_printed (Stage client request body) o w u op ∙ ap (λ (e : Option AppendError). stage_text e op) same;
        goes = goes_outcome o w u op goes goes;
      }

  -- ---- a flush

  flush_told : (sums : List ℕ) → let ps = group_of m sums in told
      (record { units = overlay (group_puts sh.layout.slots ps) x.shown.units; damage = x.shown.damage }) (with_group w ps) ≡ told_flush t
  flush_told sums = let ps = group_of m sums in let more = sessions_group m sums v.checkpoint.parts.sessions v.tail in
      let longer : v.checkpoint.content.op + length (v.tail ++ ps) ≡ head v + length w.staged = omega
      (arith, length-append v.tail ps, length_in m (head v + 1) (head v + length w.staged) (head v + 1) m.head_checksum w.staged sums) in
      let left : ℕ
      → Option Message = λ k. kept (slice_get (sessions_after v.checkpoint.parts.sessions (v.tail ++ ps)) k) (head v) (v.stored k) in
      let reads : (k : ℕ)
      → plainly (read_of (left k) (record { units = overlay (group_puts sh.layout.slots ps) x.shown.units; damage = x.shown.damage }) k)
      ≡ kept_read (slice_get (asked_all (head v + 1) w.staged (sessions v)) k) (head v) (t.reads k) =
      λ k. ap (λ (o : Option AnyUnit). let u = or_else o (x.shown.units (ReplyPlace k)) in
      plainly (reply_given (stored_sum (left k)) u (class_or u (x.shown.damage (ReplyPlace k))))) (puts_aside sh.layout.slots ps k)
      ∙ read_kept (slice_get (sessions_after v.checkpoint.parts.sessions (v.tail ++ ps)) k)
      (head v) (v.stored k) (x.shown.units (ReplyPlace k)) (x.shown.damage (ReplyPlace k))
      ∙ ap (λ (ss : List Session). kept_read (slice_get ss k) (head v) (t.reads k)) more in
      λ i. record { head = longer i; replies = v.replies; sessions = more i; staged = []; reads = λ k. reads k i }

  flush_tells : Tells sh codec x Flush
  flush_tells = let o = first_refusal (flush_refusals m) in let ps = group_of m (checksums_given codec m Flush) in
      let count = length w.staged in record {
        told = told_outcome o x.shown (group_puts sh.layout.slots ps) w (with_group w ps) count
            ∙ ap (told_or o t) (flush_told (checksums_given codec m Flush));
        text = flush_printed Flush o w (with_group w ps) count;
        goes = goes_outcome o w (with_group w ps) count goes (way_appended v ps w.running goes);
      }

  -- ---- a reply

  reply_told : (sum : ℕ) (body : List ℕ) → let r = reply_of m sum body in
      told (record { units = overlay (put_one (ReplyPlace (place_of_reply m)) (ReplyUnit r)) x.shown.units; damage = x.shown.damage })
      (with_reply w (place_of_reply m) r) ≡ told_reply t body
  reply_told sum body = let place = place_of_reply m in
      let reads : (k : ℕ) → plainly (read_of (if k == place then Some (reply_of m sum body) else v.stored k)
      (record { units = overlay (put_one (ReplyPlace place) (ReplyUnit (reply_of m sum body))) x.shown.units; damage = x.shown.damage }) k)
      ≡ (if k == place then Ok (told_next_reply t body) else t.reads k) =
      λ k. read_new (k == place)
      (place == k) (same_test place k) (reply_of m sum body) (v.stored k) (x.shown.units (ReplyPlace k)) (x.shown.damage (ReplyPlace k)) in
      λ i. record { head = head v; replies = v.replies + 1; sessions = sessions v; staged = w.staged; reads = λ k. reads k i }
    where
      same_test : (a b : ℕ) → (a == b) ≡ (b == a)
      same_test a b = grind (arith, nat_tests)

  reply_tells : (op : ℕ) (body : List ℕ) → Tells sh codec x (Reply op body)
  reply_tells op body = let o = first_refusal (reply_refusals m op body) in let place = place_of_reply m in
      let sum = codec.reply place (reply_of m 0 body) in let r = reply_of m sum body in record {
        told = told_outcome o x.shown (put_one (ReplyPlace place) (ReplyUnit r)) w (with_reply w place r) sum
            ∙ ap (told_or o t) (reply_told sum body);
        text = reply_printed op body o w (with_reply w place r) sum;
        goes = goes_outcome o w (with_reply w place r) sum goes (way_replied v place r w.running goes);
      }

  -- ---- a lookup

  plain_printed : (client place : ℕ) (read : Result Message Class) → answer_text (ReadReply client) (unnumbered (ToReadReply
      (shown_or None (lookup.Damaged (record { zone = ClientReplies; index = place })) read))) ≡ lookup_text None place (plainly read)
  plain_printed client place (Ok r) = refl
  plain_printed client place (Err class) = refl

  lookup_case : (client place : ℕ) (o : Option LookupError) (read plain_read : Result Message Class)
      → (o ≡ None → plainly read ≡ plain_read) → answer_text (ReadReply client) (unnumbered
      (ToReadReply (shown_or o (lookup.Damaged (record { zone = ClientReplies; index = place })) read))) ≡ lookup_text o place plain_read
  lookup_case client place (Some e) read plain_read same = refl
  lookup_case client place None read plain_read same = plain_printed client place read ∙ ap (lookup_text None place) (same refl)

  known_first : (b : Bool) (e : LookupError) (ts : List (Bool × LookupError)) → first_refusal ((b, e) ∷ ts) ≡ None → b ≡ false
  known_first true e ts none = absurd (cc)
  known_first false e ts none = refl

  lookup_read : (client : ℕ) → told_lookup_refusal t client ≡ None → let place = place_of_client client (sessions v) in
      plainly (reply_at x.shown (reply_sum m place) place) ≡ t.reads place
  lookup_read client none = let place = place_of_client client (sessions v) in
      let known = known_first (is_new (session_of_client client (sessions v))) lookup.NoClient ((nat_lt t.replies (last_op (session_of_client client t.sessions)), lookup.ReplyPending (last_op (session_of_client client t.sessions))) ∷ []) none in
      let here : place ≡ 0 + place = omega arith in ap (λ (o : Option (Option ℕ)). plainly (reply_at x.shown (joined o) place))
      (get_mapped (λ k. stored_sum (v.stored k)) 0 (length (sessions v)) place place (place_known client (sessions v) known) here)

  lookup_tells : (client : ℕ) → Tells sh codec x (ReadReply client)
  lookup_tells client = record {
    told = refl;
    text = lookup_case client (place_of_client client (sessions v)) (told_lookup_refusal t client) _ _ (lookup_read client);
    goes = goes;
  }

  line_tells : (c : Command) → IsOfLog c → IsNotFull (answer_at sh codec x c) → Tells sh codec x c
  line_tells (Append client request body) of free = append_tells client request body free
  line_tells (Stage client request body) of free = stage_tells client request body free
  line_tells Flush of free = flush_tells
  line_tells (Reply op body) of free = reply_tells op body
  line_tells (ReadReply client) of free = lookup_tells client
  line_tells command of free = absurd of

-- ---- a script

abbrev told_texts : Shape → Told → List Command → List (List ℕ)
told_texts sh t [] = []
told_texts sh t (c ∷ cs) = told_text sh t c ∷ told_texts sh (told_after sh t c) cs

abbrev told_end : Shape → Told → List Command → Told
told_end sh t [] = t
told_end sh t (c ∷ cs) = told_end sh (told_after sh t c) cs

-- the lines of a script, whatever work is done beside them
record AreTold (sh : Shape) (codec : Codec) (pace : Pace) (x : Stand) (cs : List Command) : Type 0 where
  pub texts : bare_texts cs (answered sh codec pace x cs) ≡ told_texts sh (told_at x) cs
  pub ends : told_at (ended sh codec pace x cs) ≡ told_end sh (told_at x) cs

are_told : (sh : Shape) (codec : Codec) (pace : Pace) (cs : List Command) (x : Stand)
    → Goes x.work → EachOf IsOfLog cs → EachOf IsNotFull (answered sh codec pace x cs) → AreTold sh codec pace x cs
are_told sh codec pace [] x goes of free = record { texts = refl; ends = refl }
are_told sh codec pace (c ∷ cs) x goes of free = let line = line_tells sh codec x goes c of.0 free.0 in
    let stays = behind_stays sh codec pace (by_script sh codec x c) line.goes in
    let more = are_told sh codec pace cs (passed sh codec pace x c) stays.goes of.1 free.1 in
    let next : told_at (passed sh codec pace x c) ≡ told_after sh (told_at x) c = stays.told ∙ line.told in record {
      texts = (λ i. line.text i ∷ more.texts i) ∙ ap (λ (u : Told). told_text sh (told_at x) c ∷ told_texts sh u cs) next;
      ends = more.ends ∙ ap (λ (u : Told). told_end sh u cs) next;
    }

pub pacing_law : PacingLaw
pacing_law sh codec pace other x cs still of free clear = let goes : Goes x.work = subst (IsOnItsWay x.work.view) (sym still) tt in
    let one = are_told sh codec pace cs x goes of free in let two = are_told sh codec other cs x goes of clear in
    let ends = one.ends ∙ sym two.ends in record {
      texts = one.texts ∙ sym two.texts;
      head = ap (λ (u : Told). u.head) ends;
      replies = ap (λ (u : Told). u.replies) ends;
      sessions = ap (λ (u : Told). u.sessions) ends;
    }
