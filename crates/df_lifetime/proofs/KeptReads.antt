-- What a read is supplied with is what a log shows over which the disk is honest, so that the machine's laws of reads apply.
use Rattle.std.{proofs.{Common.{◌≡◌, ℕ, ◌≤◌, ◌==◌, ◌&&◌, not, nat_lt, nat_le, zero, suc, Bool, true, false, if◌then◌else◌, List, [], ◌∷◌, Option, Some, None, Result, Ok, refl, sym, ◌∙◌, ap, arith, lt-ltb, le-leb, le-ltb, eq-eqb, eqb-true}, lemmas.Option.{same_Some}}, specs.List.{slice_get}}
use Rattle.df_base.specs.Log as logs
use Rattle.{df_layout.specs.declared.damage.Class.{Class}, df_units.specs.{Bytes.{unit_at}, Wanted.{class_at}}}
use Rattle.df_theory.{specs.{Device.{units_log}, Shape.{Shape}, UnitLog.{UnitLog, now}, Units.{Block, Message, Session}, View.{head, sessions}}, proofs.Laws.{now_units}}
use Rattle.df_theory.specs.Units
use Rattle.df_model.{specs.{After.{lookup_answer, prepare_answer, read_answer}, Commands.{Answer, Command, ReadBlock, ReadPrepare, ReadReply, ToReadBlock, ToReadPrepare, ToReadReply}, Laws.{IsKeptBy}, Memory.{Memory, memory_of}, Reading.{shown_by}, Refusals.{first_refusal, is_new, last_op, lookup_refusals, prepare_refusals, session_of_client}, Supply.{Codec, block_read, message_given}, Work.{Work}}, proofs.Laws.{block_read_law, prepare_read_law, reply_read_law}}
use Rattle.df_model.specs.declared.reading.LookupError.TheVariants as lookup
use Rattle.df_session.specs.{Below.{memory, shape, spelling, DataFile}, Reading.{shown_of}, Serving.{Firm, Grade, KeptFor, Whole, format, next}}
use Rattle.df_lifetime.specs.Reads.{IsAnsweredRead, KeptPreparesAreRead, KeptRepliesAreRead, LiveBlocksAreRead}

-- ---- the tests of a read

unrefused : {E : Type 0} (a b : Bool) (e : E) → a ≡ true → b ≡ true → (if not (a && b) then Some e else None) ≡ None
unrefused true true e one two = refl
unrefused true false e one two = absurd (cc)
unrefused false b e one two = absurd (cc)

-- the session of a client is the one that has it
abbrev Apart : List Session → Type 0
Apart ss = (j k : ℕ) (s t : Session) → slice_get ss j ≡ Some s → slice_get ss k ≡ Some t → s.client ≡ t.client → j ≡ k

client_case : (x s : Session) (ss : List Session) (k : ℕ) (b : Bool)
    → (x.client == s.client) ≡ b → Apart (x ∷ ss) → slice_get (x ∷ ss) k ≡ Some s
    → ((j : ℕ) → slice_get ss j ≡ Some s → session_of_client s.client ss ≡ Some s)
    → (if b then Some x else session_of_client s.client ss) ≡ Some s
client_case x s ss zero b is apart at more = first b is
  where
    first : (b : Bool) → (x.client == s.client) ≡ b → (if b then Some x else session_of_client s.client ss) ≡ Some s
    first true is = at
    first false is = let one : x ≡ s = (let both : Some x ≡ Some s = at in cc) in
        absurd (let no : true ≡ false = sym (eq-eqb x.client s.client (ap (λ (t : Session). t.client) one)) ∙ is in cc)
client_case x s ss (suc k) true is apart at more =
    absurd (let no : 0 ≡ suc k = apart 0 (suc k) x s refl at (eqb-true x.client s.client is) in omega arith)
client_case x s ss (suc k) false is apart at more = more k at

client_found : (ss : List Session) (s : Session) (k : ℕ) → Apart ss → slice_get ss k ≡ Some s → session_of_client s.client ss ≡ Some s
client_found [] s zero apart at = absurd (let no : None ≡ Some s = at in cc)
client_found [] s (suc k) apart at = absurd (let no : None ≡ Some s = at in cc)
client_found (x ∷ ss) s k apart at = client_case x s ss k (x.client == s.client) refl apart at (λ j there.
    client_found ss s j (λ m n a b one two same. let e : suc m ≡ suc n = apart (suc m) (suc n) a b one two same in omega (arith, e)) there)

passes : {E : Type 0} (n op : ℕ) (e : E) → op ≤ n → (if nat_lt n op then Some e else None) ≡ None
passes n op e low = ap (λ (b : Bool). if b then Some e else None) (le-ltb n op low)

lookup_passes : (m : Memory) (s : Session)
    → session_of_client s.client m.sessions ≡ Some s → s.op ≤ m.replies → first_refusal (lookup_refusals m s.client) ≡ None
lookup_passes m s is low = ap (λ (o : Option Session).
    if is_new o then Some lookup.NoClient else (if nat_lt m.replies (last_op o) then Some (lookup.ReplyPending (last_op o)) else None)) is
    ∙ passes m.replies s.op (lookup.ReplyPending s.op) low

same_message : (p q : Message) → Some p ≡ Some q → p ≡ q
same_message p q both = cc

-- ---- what is supplied is what the log shows

firm : (g : Grade) (sh : Shape) (spell : Units.Parts → List ℕ) (log : UnitLog) (w : Work) → KeptFor g sh spell log w → IsKeptBy sh spell log w
firm Firm sh spell log w by = by
firm Whole sh spell log w by = by.0

module _ (g : Grade) (w : Work) (command : Command) (x : Answer) (is : IsAnsweredRead g w command x) where
  abbrev file : DataFile
  file = is.state.file

  abbrev log : UnitLog
  log = units_log (format file) is.base.log

  abbrev damage : Units.Place → Class
  damage = class_at file.layout file.cluster is.told.shown

  -- no read makes a unit
  abbrev spells : Codec
  spells = record { spell = spelling file; prepare = λ m. 0; reply = λ place m. 0; block = λ a b. 0; content = λ c. 0 }

  by : IsKeptBy (shape file) (spelling file) log w
  by = firm g (shape file) (spelling file) log w is.keeps.kept_by

  answer : x ≡ (next file w is.given command).1
  answer = (is.call.keeps g w (Some is.base) is.keeps).1.0

  shows : is.told.shown ≡ logs.now is.base.log
  shows = sym is.same ∙ (let honest : is.base.shown ≡ logs.now is.base.log = λ i sector. is.honest.shows sector i in honest)

  units : unit_at file.layout file.cluster is.told.shown ≡ now log
  units = ap (unit_at file.layout file.cluster) shows ∙ sym (now_units (format file) is.base.log.start is.base.log.events)

  message : message_given (shown_of file is.told.shown) (memory is.state) command
      ≡ message_given (shown_by log damage) (memory_of (shape file) (spelling file) w) command
  message = λ i. message_given (record { units = units i; damage = damage }) (is.keeps.stands i) command

  block : block_read (shown_of file is.told.shown) (memory is.state) command
      ≡ block_read (shown_by log damage) (memory_of (shape file) (spelling file) w) command
  block = λ i. block_read (record { units = units i; damage = damage }) (is.keeps.stands i) command

-- ---- the laws

pub kept_prepares_are_read : KeptPreparesAreRead
kept_prepares_are_read g w op x is above below = let file = is.state.file in let m : Memory = memory_of (shape file) (spelling file) w in
    let none : first_refusal (prepare_refusals m op) ≡ None = unrefused (nat_lt w.view.checkpoint.content.op op)
    (nat_le op (head w.view)) _ (lt-ltb w.view.checkpoint.content.op op above) (le-leb op (head w.view) below) in
    let read = prepare_read_law (shape file) (spells g w (ReadPrepare op) x is)
    (log g w (ReadPrepare op) x is) (damage g w (ReadPrepare op) x is) w op (by g w (ReadPrepare op) x is) none in
    (read.0, read.1, read.2, answer g w (ReadPrepare op) x is ∙ ap (λ (found : Result Message Class). ToReadPrepare (prepare_answer m found op)) (is.call.supplied.1 ∙ message g w (ReadPrepare op) x is) ∙ read.3)

pub kept_replies_are_read : KeptRepliesAreRead
kept_replies_are_read g w k s r x is at there = let file = is.state.file in let m : Memory = memory_of (shape file) (spelling file) w in
    let sense = (by g w (ReadReply s.client) x is).sense in let own = sense.view.answered k r there in
    let low : s.op ≤ w.view.replies = rw (same_Some own.0 s (sym own.1 ∙ at)) at own.2 in
    let none : first_refusal (lookup_refusals m s.client) ≡ None =
    lookup_passes m s (client_found (sessions w.view) s k sense.sessions.apart at) low in
    let read = reply_read_law (shape file) (spells g w (ReadReply s.client) x is)
    (log g w (ReadReply s.client) x is) (damage g w (ReadReply s.client) x is) w s.client (by g w (ReadReply s.client) x is) none in
    let place : read.0 ≡ k = sense.sessions.apart read.0 k read.1 s read.3 at read.4 in
    let one : read.2 ≡ r = same_message read.2 r (sym read.5 ∙ ap (λ (n : ℕ). w.view.stored n) place ∙ there) in
    answer g w (ReadReply s.client) x is ∙ ap (λ (found : Result Message Class).
    ToReadReply (lookup_answer m found s.client)) (is.call.supplied.1 ∙ message g w (ReadReply s.client) x is) ∙ read.7
    ∙ ap (λ (p : Message). ToReadReply (Ok p)) one

pub live_blocks_are_read : LiveBlocksAreRead
live_blocks_are_read w a c x is live = let file = is.state.file in let m : Memory = memory_of (shape file) (spelling file) w in let read =
    block_read_law (shape file) (spells Whole w (ReadBlock a) x is)
    (log Whole w (ReadBlock a) x is) (damage Whole w (ReadBlock a) x is) w a c (by Whole w (ReadBlock a) x is) is.keeps.kept_by.1 live in
    (read.0, read.1, answer Whole w (ReadBlock a) x is ∙ ap (λ (found : Result Block Class). ToReadBlock (read_answer m found a)) (is.call.supplied.1 ∙ block Whole w (ReadBlock a) x is) ∙ read.3)
