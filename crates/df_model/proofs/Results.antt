-- Calls over a device answer the fold of the machine.
use Rattle.std.proofs.Common.{◌≡◌, ℕ, ◌+◌, ◌%◌, List, [], ◌∷◌, ◌++◌, map, Option, Some, None, refl, sym, ◌∙◌, ap, subst}
use Rattle.df_layout.specs.declared.damage.Class.{Class}
use Rattle.df_theory.{specs.{Units.{AnyUnit, Block, BlockPlace, BlockUnit, Content, CopyPlace, CopyUnit, Header, HeaderPlace, Message, Parts, Place, PreparePlace, PrepareUnit, ReplyPlace, ReplyUnit, Units, or_else, overlay}, Shape.{Shape}, View.{View}, UnitLog.{PutsOne, Synced, UnitLog, add, now, put_one, wrote}, Runs.{Step, Syncs, after_steps}, MakingLaws.{all_puts}, MendLaws.{AllPutTable, PutsTable}, WriterLaws.{AllPutPrepare, IsHeaderSector}}, proofs.Laws.{after_append, put_else, put_one_law, else_join}}
use Rattle.df_model.specs.{Work.{Running, Work}, Memory.{Memory, course, course_of, memory_of, prepare_sum, reply_sum}, Blocks.{sum_at}, Refusals.{append_refusals, block_refusals, first_refusal, flush_refusals, reply_refusals}, Making.{block_of, group_of, next_address, place_of_reply, prepare_of, reply_of}, After.{checkpoint_of, next_trailer, place_of_client, to_check}, Commands.{Advance, Answer, Append, Command, Flush, ForReadBlock, ForReadPrepare, ForReadReply, ForScrub, Given, ReadBlock, ReadPrepare, ReadReply, Reply, Scrub, WriteBlock, after, supplied_sum, supplied_sums}, Supply.{Codec, Shown, block_at, block_given, block_read, checksums_given, class_or, copies_of, first_check, group_puts, message_given, next, no_trailer, nothing, prepare_at, prepare_given, puts_of, reply_at, reply_given, result, step_puts, supplied, trailer_puts, unless, verdict_of}, Laws.{DoesAdvance, DoesAdvanceTo, DoesAppend, DoesBlock, DoesCommand, DoesFinish, DoesFlush, DoesReply, UnlessRefused}, Runs.{Stepped, act_of, command_in, run_answers}, Result.{AgreeReads, AreServed, ResultLaw, WritesLaw}}

-- ---- what is supplied

module _ (codec : Codec) (m : Memory) (image other : Units) (damage : Place → Class) (agree : AgreeReads image other) where
  abbrev s : Shown
  s = record { units = image; damage = damage }

  abbrev t : Shown
  t = record { units = other; damage = damage }

  prepare_same : (known : Option ℕ) (slot : ℕ) → prepare_at s known slot ≡ prepare_at t known slot
  prepare_same known slot = ap (λ (u : Option AnyUnit). prepare_given known u (class_or u (damage (PreparePlace slot)))) (agree.prepare slot)

  reply_same : (known : Option ℕ) (place : ℕ) → reply_at s known place ≡ reply_at t known place
  reply_same known place = ap (λ (u : Option AnyUnit). reply_given known u (class_or u (damage (ReplyPlace place)))) (agree.reply place)

  block_same : (known : Option ℕ) (a : ℕ) → block_at s known a ≡ block_at t known a
  block_same known a = ap (λ (u : Option AnyUnit). block_given known u (class_or u (damage (BlockPlace a)))) (agree.block a)

  message_same : (c : Command) → message_given s m c ≡ message_given t m c
  message_same (ReadPrepare op) = prepare_same (prepare_sum m op) (op % m.layout.slots)
  message_same (ReadReply client) = reply_same (reply_sum m (place_of_client client m.sessions)) (place_of_client client m.sessions)
  message_same c = refl

  read_same : (c : Command) → block_read s m c ≡ block_read t m c
  read_same (ReadBlock address) = ap no_trailer (block_same (sum_at address m.blocks.live) address)
  read_same c = refl

  check_same : (xs : List (ℕ × ℕ)) → first_check s xs ≡ first_check t xs
  check_same [] = refl
  check_same (x ∷ more) = ap verdict_of (block_same (Some x.1) x.0)

  -- what makes a unit is supplied with a checksum that isn't of what is shown
  pub supplied_same : (c : Command) → supplied codec s m c ≡ supplied codec t m c
  supplied_same (ReadPrepare op) = ap ForReadPrepare (message_same (ReadPrepare op))
  supplied_same (ReadReply client) = ap ForReadReply (message_same (ReadReply client))
  supplied_same (ReadBlock address) = ap ForReadBlock (read_same (ReadBlock address))
  supplied_same Scrub = ap ForScrub (check_same (to_check m))
  supplied_same command = refl

-- the checksums that are supplied are the codec's
supplied_by : (codec : Codec) (shown : Shown) (m : Memory) (c : Command)
    → supplied_sums (supplied codec shown m c) ≡ checksums_given codec m c
supplied_by codec shown m Flush = refl
supplied_by codec shown m command = refl

-- ---- what is written

over_same : (put other image under : Units) (place : Place)
    → put place ≡ other place → image place ≡ under place → overlay put image place ≡ overlay other under place
over_same put other image under place one two = ap (λ (o : Option AnyUnit). or_else o (image place)) one ∙ ap (or_else (other place)) two

-- two writes of one unit are one
same_puts : (put other : Units) (place : Place) (x : AnyUnit) → PutsOne put place x → PutsOne other place x → (at : Place) → put at ≡ other at
same_puts put other place x one two at = go (put at) (other at) refl refl
  where
    go : (o p : Option AnyUnit) → put at ≡ o → other at ≡ p → o ≡ p
    go None None is there = refl
    go None (Some y) is there = absurd (let here = ap put (two.only at y there).0 in cc (here, is, one.at))
    go (Some y) None is there = absurd (let here = ap other (one.only at y is).0 in cc (here, there, two.at))
    go (Some y) (Some z) is there = ap Some ((one.only at y is).1 ∙ sym (two.only at z there).1)

agree_over : (put other image under : Units)
    → ((place : Place) → put place ≡ other place) → AgreeReads image under → AgreeReads (overlay put image) (overlay other under)
agree_over put other image under same agree = record {
  prepare = λ s. over_same put other image under (PreparePlace s) (same (PreparePlace s)) (agree.prepare s);
  reply = λ k. over_same put other image under (ReplyPlace k) (same (ReplyPlace k)) (agree.reply k);
  block = λ a. over_same put other image under (BlockPlace a) (same (BlockPlace a)) (agree.block a);
}

agree_one : (put image under : Units) (place : Place) (x : AnyUnit)
    → PutsOne put place x → AgreeReads image under → AgreeReads (overlay put image) (overlay (put_one place x) under)
agree_one put image under place x one agree =
    agree_over put (put_one place x) image under (same_puts put (put_one place x) place x one (put_one_law place x)) agree

-- a write that no command reads
agree_aside : (put image under : Units) → AgreeReads (overlay put image) image → AgreeReads image under → AgreeReads (overlay put image) under
agree_aside put image under aside agree = record { prepare = λ s. aside.prepare s ∙ agree.prepare s; reply = λ k. aside.reply k ∙ agree.reply k; block = λ a. aside.block a ∙ agree.block a }

headers_aside : (sh : Shape) (put image shown : Units) (p : Message) → IsHeaderSector sh shown p put → AgreeReads (overlay put image) image
headers_aside sh put image shown p sector = record { prepare = λ s. go (PreparePlace s) (λ k same. cc (same)); reply = λ k. go (ReplyPlace k) (λ i same. cc (same)); block = λ a. go (BlockPlace a) (λ k same. cc (same)) }
  where
    at : (place : Place) → ((k : ℕ) → place ≡ HeaderPlace k → ⊥) → (o : Option AnyUnit) → put place ≡ o → or_else o (image place) ≡ image place
    at place apart None is = refl
    at place apart (Some y) is = absurd (let one = sector.each place y is in apart one.0 one.2)

    go : (place : Place) → ((k : ℕ) → place ≡ HeaderPlace k → ⊥) → overlay put image place ≡ image place
    go place apart = at place apart (put place) refl

copy_aside : (put image : Units) (n : ℕ) (c : Content) → PutsOne put (CopyPlace n) (CopyUnit c) → AgreeReads (overlay put image) image
copy_aside put image n c one = record {
  prepare = λ s. put_else put image (CopyPlace n) (PreparePlace s) (CopyUnit c) one (λ same. cc (same));
  reply = λ k. put_else put image (CopyPlace n) (ReplyPlace k) (CopyUnit c) one (λ same. cc (same));
  block = λ a. put_else put image (CopyPlace n) (BlockPlace a) (CopyUnit c) one (λ same. cc (same));
}

agree_under : (image under : Units) (put : Units) → ((s : ℕ) → put (PreparePlace s) ≡ None) → ((k : ℕ) → put (ReplyPlace k) ≡ None)
    → ((a : ℕ) → put (BlockPlace a) ≡ None) → AgreeReads image under → AgreeReads image (overlay put under)
agree_under image under put prepares replies blocks agree = record {
  prepare = λ s. agree.prepare s ∙ sym (ap (λ (o : Option AnyUnit). or_else o (under (PreparePlace s))) (prepares s));
  reply = λ k. agree.reply k ∙ sym (ap (λ (o : Option AnyUnit). or_else o (under (ReplyPlace k))) (replies k));
  block = λ a. agree.block a ∙ sym (ap (λ (o : Option AnyUnit). or_else o (under (BlockPlace a))) (blocks a));
}

-- ---- a group

-- each prepare is put over what the ones before it left
prepares_agree : (sh : Shape) (ps : List Message) (puts : List Units) (log : UnitLog) (under : Units) → AllPutPrepare sh ps puts
    → AgreeReads (now log) under → AgreeReads (now (after_steps (all_puts puts) log)) (overlay (group_puts sh.layout.slots ps) under)
prepares_agree sh [] [] log under all agree = record { prepare = agree.prepare; reply = agree.reply; block = agree.block }
prepares_agree sh [] (put ∷ puts) log under all agree = absurd all
prepares_agree sh (p ∷ ps) [] log under all agree = absurd all
prepares_agree sh (p ∷ ps) (put ∷ puts) log under all agree =
    let own = put_one (PreparePlace (p.header.op % sh.layout.slots)) (PrepareUnit p) in let rest = group_puts sh.layout.slots ps in
    let one = agree_one put (now log) under (PreparePlace (p.header.op % sh.layout.slots)) (PrepareUnit p) all.0 agree in
    let more = prepares_agree sh ps puts (wrote put log) (overlay own under) all.1 one in
    let both : (place : Place) → overlay rest (overlay own under) place ≡ overlay (overlay rest own) under place =
    λ place. else_join (rest place) (own place) (under place) in
    record { prepare = λ s. more.prepare s ∙ both (PreparePlace s); reply = λ k. more.reply k ∙ both (ReplyPlace k); block = λ a. more.block a ∙ both (BlockPlace a) }

table_aside : (table : ℕ → Header) (put image : Units) → PutsTable table put → AgreeReads (overlay put image) image
table_aside table put image all = record { prepare = λ s. go (PreparePlace s) (λ k same. cc (same)); reply = λ k. go (ReplyPlace k) (λ i same. cc (same)); block = λ a. go (BlockPlace a) (λ k same. cc (same)) }
  where
    at : (place : Place) → ((k : ℕ) → place ≡ HeaderPlace k → ⊥) → (o : Option AnyUnit) → put place ≡ o → or_else o (image place) ≡ image place
    at place apart None is = refl
    at place apart (Some y) is = absurd (let one = all place y is in apart one.0 one.1)

    go : (place : Place) → ((k : ℕ) → place ≡ HeaderPlace k → ⊥) → overlay put image place ≡ image place
    go place apart = at place apart (put place) refl

-- header sectors are aside
headers_agree : (table : ℕ → Header) (puts : List Units) (log : UnitLog) (under : Units)
    → AllPutTable table puts → AgreeReads (now log) under → AgreeReads (now (after_steps (all_puts puts) log)) under
headers_agree table [] log under all agree = agree
headers_agree table (put ∷ puts) log under all agree =
    headers_agree table puts (wrote put log) under all.1 (agree_aside put (now log) under (table_aside table put (now log) all.0) agree)

-- ---- the calls

-- after these steps the device shows what the fold has
abbrev pub Shows : UnitLog → List Step → Units → Units → Type 0
Shows log steps put under = AgreeReads (now (after_steps steps log)) (overlay put under)

idle : (log : UnitLog) (steps : List Step) (under : Units) → steps ≡ [] → AgreeReads (now log) under → Shows log steps nothing under
idle log steps under none agree = subst (λ (ss : List Step).
    Shows log ss nothing under) (sym none) (record { prepare = agree.prepare; reply = agree.reply; block = agree.block })

unless_refused : {E : Type 0} (log : UnitLog) (o : Option E) (steps : List Step) (Done : Type 0) (put under : Units)
    → AgreeReads (now log) under → (Done → Shows log steps put under) → UnlessRefused o steps Done → Shows log steps (unless o put) under
unless_refused log (Some e) steps Done put under agree more does = idle log steps under does agree
unless_refused log None steps Done put under agree more does = more does

block_writes : (log : UnitLog) (steps : List Step) (v : View) (a : ℕ) (b : Block) (under : Units)
    → AgreeReads (now log) under → DoesBlock v a b steps → Shows log steps (put_one (BlockPlace a) (BlockUnit b)) under
block_writes log steps v a b under agree does = subst (λ (ss : List Step). Shows log ss (put_one (BlockPlace a) (BlockUnit b)) under)
    (sym does.are) (agree_one does.put (now log) under (BlockPlace a) (BlockUnit b) does.one agree)

module _ (sh : Shape) (spell : Parts → List ℕ)
    (log : UnitLog) (w : Work) (given : Given) (steps : List Step) (under : Units) (agree : AgreeReads (now log) under) where
  abbrev m : Memory
  m = memory_of sh spell w

  append_writes : (client request : ℕ) (body : List ℕ)
      → DoesAppend sh (now log) w.view (prepare_of m (supplied_sum given) client request body) steps → Shows log steps
      (put_one (PreparePlace ((m.head + 1) % sh.layout.slots)) (PrepareUnit (prepare_of m (supplied_sum given) client request body))) under
  append_writes client request body does = let p = prepare_of m (supplied_sum given) client request body in
      subst (λ (ss : List Step). Shows log ss (put_one (PreparePlace ((m.head + 1) % sh.layout.slots)) (PrepareUnit p)) under) (sym does.are)
      (agree_aside does.headers (overlay does.prepare (now log)) (overlay (put_one (PreparePlace ((m.head + 1) % sh.layout.slots))
      (PrepareUnit p)) under) (headers_aside sh does.headers (overlay does.prepare (now log)) (now log) p does.sector)
      (agree_one does.prepare (now log) under (PreparePlace ((m.head + 1) % sh.layout.slots)) (PrepareUnit p) does.one agree))

  flush_writes : (ps : List Message) → DoesFlush sh (now log) w.view ps steps → Shows log steps (group_puts sh.layout.slots ps) under
  flush_writes ps does = let mid = after_steps (all_puts does.prepares) log in
      subst (λ (ss : List Step). Shows log ss (group_puts sh.layout.slots ps) under) (sym does.are)
      (rw ((after_append (all_puts does.prepares) (Syncs ∷ (all_puts does.headers ++ Syncs ∷ [])) log
      ∙ after_append (all_puts does.headers) (Syncs ∷ []) (add Synced mid))) (headers_agree does.table does.headers (add Synced mid)
      (overlay (group_puts sh.layout.slots ps) under) does.sectors (prepares_agree sh ps does.prepares log under does.puts agree)))

  finish_writes : (c : Content) → (r : Running) → (c ≡ (checkpoint_of sh spell w r (supplied_sum given)).content)
      → DoesFinish w.view (checkpoint_of sh spell w r (supplied_sum given)) steps → Shows log steps (copies_of c) under
  finish_writes c r is does = let d = (checkpoint_of sh spell w r (supplied_sum given)).content in
      let image0 = overlay does.puts.put0 (now log) in let image1 = overlay does.puts.put1 image0 in
      let image2 = overlay does.puts.put2 image1 in subst (λ (ss : List Step). Shows log ss (copies_of c) under) (sym does.are)
      (agree_under (overlay does.puts.put3 image2) under (copies_of c) (λ s. refl) (λ k. refl) (λ a. refl)
      (agree_aside does.puts.put3 image2 under (copy_aside does.puts.put3 image2 3 d does.puts.one3)
      (agree_aside does.puts.put2 image1 under (copy_aside does.puts.put2 image1 2 d does.puts.one2)
      (agree_aside does.puts.put1 image0 under (copy_aside does.puts.put1 image0 1 d does.puts.one1)
      (agree_aside does.puts.put0 (now log) under (copy_aside does.puts.put0 (now log) 0 d does.puts.one0) agree)))))

  advance_to : (r : Running) (l : List ℕ) → DoesAdvanceTo sh spell w (supplied_sum given) r l steps
      → Shows log steps (trailer_puts m (course spell r) (supplied_sum given) l) under
  advance_to r [] does = finish_writes (checkpoint_of sh spell w r (supplied_sum given)).content r refl does
  advance_to r (a ∷ more) does = block_writes log steps w.view a (next_trailer sh spell w r (supplied_sum given)) under agree does

  advances : (o : Option Running) → w.running ≡ o
      → DoesAdvance sh spell w (supplied_sum given) o steps → Shows log steps (step_puts m m.running (supplied_sum given)) under
  advances None is does = subst (λ (o : Option Running).
      Shows log steps (step_puts m (course_of spell o) (supplied_sum given)) under) (sym is) (idle log steps under does agree)
  advances (Some r) is does = subst (λ (o : Option Running).
      Shows log steps (step_puts m (course_of spell o) (supplied_sum given)) under) (sym is) (advance_to r r.left does)

  pub shows_next : (c : Command) → DoesCommand sh spell (now log) w given c steps → Shows log steps (puts_of m (supplied_sums given) c) under
  shows_next (Append client request body) does = unless_refused
      log (first_refusal (append_refusals m client request body)) steps _ _ under agree (append_writes client request body) does
  shows_next Flush does =
      unless_refused log (first_refusal (flush_refusals m)) steps _ _ under agree (flush_writes (group_of m (supplied_sums given))) does
  shows_next (Reply op body) does = let place = place_of_reply m in let r = reply_of m (supplied_sum given) body in
      unless_refused log (first_refusal (reply_refusals m op body))
      steps (DoesReply w.view place r steps) (put_one (ReplyPlace place) (ReplyUnit r)) under agree (λ done.
      rw done.are (agree_one done.put (now log) under (ReplyPlace place) (ReplyUnit r) done.one agree)) does
  shows_next (WriteBlock kind body) does = unless_refused log (first_refusal (block_refusals m kind body)) steps _ _ under agree (λ done.
      block_writes log steps w.view (next_address m) (block_of m.content.boot (supplied_sum given) kind body) under agree done) does
  shows_next Advance does = advances w.running refl does
  shows_next command does = idle log steps under does agree

agree_self : (image : Units) → AgreeReads image image
agree_self image = record { prepare = λ s. refl; reply = λ k. refl; block = λ a. refl }

pub writes_law : WritesLaw
writes_law sh spell log w given c steps does = shows_next sh spell log w given steps (now log) (agree_self (now log)) c does

-- ---- a session

folds : (sh : Shape) (codec : Codec) (damage : Place → Class) (log : UnitLog) (under : Units) (w : Work) (xs : List Stepped)
    → AgreeReads (now log) under → AreServed sh codec damage log w xs → run_answers sh codec.spell w (map act_of xs)
    ≡ result sh codec (record { units = under; damage = damage }) w (map command_in (map act_of xs))
folds sh codec damage log under w [] agree served = refl
folds sh codec damage log under w (x ∷ xs) agree served = let m = memory_of sh codec.spell w in
    let s : Shown = record { units = under; damage = damage } in
    let given : x.act.given ≡ supplied codec s m x.act.command = served.0 ∙ supplied_same codec m (now log) under damage agree x.act.command in
    let later : AgreeReads (now (after_steps x.steps log)) (overlay (puts_of m (supplied_sums x.act.given) x.act.command) under) =
    shows_next sh codec.spell log w x.act.given x.steps under agree x.act.command served.1 in
    ap (λ (rest : List Answer). (after sh codec.spell w x.act.given x.act.command).1
    ∷ rest) (folds sh codec damage (after_steps x.steps log) (overlay (puts_of m (supplied_sums x.act.given) x.act.command) under)
    (after sh codec.spell w x.act.given x.act.command).0 xs later served.2)
    ∙ ap (λ (g : Given). (after sh codec.spell w g x.act.command).1
    ∷ result sh codec (record { units = overlay (puts_of m (supplied_sums g) x.act.command) under; damage = damage })
    (after sh codec.spell w g x.act.command).0 (map command_in (map act_of xs))) given
    ∙ ap (λ (sums : List ℕ).
    (next sh codec s w x.act.command).1 ∷ result sh codec (record { units = overlay (puts_of m sums x.act.command) under; damage = damage })
    (next sh codec s w x.act.command).0 (map command_in (map act_of xs))) (supplied_by codec s m x.act.command)

pub result_law : ResultLaw
result_law sh codec damage log w xs served = folds sh codec damage log (now log) w xs (agree_self (now log)) served
