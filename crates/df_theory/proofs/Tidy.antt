-- Each command begins and ends in a tidy file.
use Rattle.std.proofs.Common.{◌≡◌, inl, ℕ, ◌+◌, ◌-◌, ◌%◌, List, [], ◌∷◌, ◌++◌, ◌||◌, false, Option, Some, None, refl, sym, ◌∙◌, ap, subst, true, arith, length-append, length-drop}
use Rattle.df_theory.{specs.{Units.{AnyUnit, Block, BlockPlace, BlockUnit, Content, CopyPlace, CopyUnit, Header, Message, PreparePlace, PrepareUnit, ReplyPlace, ReplyUnit, Units, is_some}, Shape.{Shape}, View.{View, boot_of, head}, Holds.{Stands}, Next.{appended, checkpointed, replied}, Grown.{IsClear}, UnitLog.{PutsOne, Synced, UnitLog, add, loose, now, settled, wrote}, Rests.{IsBlock, IsGoodLog, IsQuiet, RestsOn}, Runs.{AtEach, Leads, Puts, Step, Syncs, after_steps}, MakingLaws.{all_puts}, MendLaws.{AllPutCopy, AllPutTable, copy_steps, header_steps, mend_steps}, WholeLaws.{AllSpare, IsStanding, Spares}, TidyLaws.{KeepsStanding, TidyAppendLaw, TidyBlockLaw, TidyFinishLaw, TidyMendLaw, TidyReplyLaw, TidySyncLaw, TidyIdleLaw}, Commands.{append_command, block_command, finish_command, mend_command, reply_command, sync_command, idle_command}, CopyPuts.{PutsCopies, update_steps}}, proofs.{Clear.{clear_steps, low_append, low_copies, low_headers, low_one, low_update}, Writes.{append_law, reply_law, block_law, update_law, write_law, good_rests, quiet_synced}, Steps.{rests_safe, rests_holds}, Runs.{after_append}, Mends.{mend_law, mends_whole_law, synced_after}, Keeps.{whole_append_law, whole_reply_law, whole_block_law, whole_update_law, stands_law}, Standing.{keeps_standing, miss, spares_headers, spares_one, standing_after, standing_all}}}

-- ---- the commands

pub tidy_append_law : TidyAppendLaw
tidy_append_law sh log v p prepare headers tidy may one sector there = let spare_prepare : Spares v prepare =
    spares_one v prepare (PreparePlace (p.header.op % sh.layout.slots)) (PrepareUnit p) one (λ a same. cc (same)) in
    let spare_headers : Spares v headers = spares_headers v headers (λ place y is. let e = sector.each place y is in (e.0, e.2)) in
    let top : head (appended v (p ∷ [])) ≡ head v + 1 = omega (arith, length-append v.tail (p ∷ [])) in
    let leads = (append_law sh log v p prepare headers tidy.rests tidy.quiet tidy.clear may one sector).leads in (
      record {
        leads = leads;
        tidy = record {
          rests = leads.rests;
          quiet = quiet_synced (wrote headers (add Synced (wrote prepare log)));
          clear = clear_steps sh log v
              (appended v (p ∷ [])) (append_command v p prepare headers).steps tidy.rests tidy.quiet tidy.clear refl (omega (arith, top)) (
                (λ s q is own. let at = (one.only (PreparePlace s)
                    (PrepareUnit q) is).1 in let same : q ≡ p = cc in omega (arith, ap (λ (w : Message). w.header.op) same, may.is.turn.0, top)),
                ((λ s q is own. absurd (let at = (sector.each (PreparePlace s) (PrepareUnit q) is).2 in cc)), tt),
              );
          whole = whole_append_law sh (now log) v p prepare headers tidy.rests.holds.bears.sound may one sector there tidy.whole;
        };
      },
      keeps_standing sh log v (append_command v p prepare headers) refl leads (spare_prepare, (spare_headers, tt)),
    )

pub tidy_reply_law : TidyReplyLaw
tidy_reply_law sh log v put place r tidy may one =
    let spare : Spares v put = spares_one v put (ReplyPlace place) (ReplyUnit r) one (λ a same. cc (same)) in
    let leads = write_law sh log put v (replied v place r) tidy.rests (reply_law sh log v put place r tidy.rests tidy.quiet may one) in (
      record { leads = leads; tidy = record { rests = leads.rests; quiet = quiet_synced (wrote put log); clear = clear_steps sh log v (replied v place r) (reply_command v place r put).steps tidy.rests tidy.quiet tidy.clear refl (omega arith) (low_one (boot_of v) (head v) put (ReplyPlace place) (ReplyUnit r) one (λ prepare. prepare), tt); whole = whole_reply_law sh (now log) put v place r one tidy.whole } },
      keeps_standing sh log v (reply_command v place r put) refl leads (spare, tt),
    )

-- what is loose after a block was written
quiet_block : (log : UnitLog) (put : Units) (a : ℕ) (b : Block)
    → IsQuiet log → PutsOne put (BlockPlace a) (BlockUnit b) → IsQuiet (wrote put log)
quiet_block log put a b quiet one place wet = go (put place) refl
  where
    go : (o : Option AnyUnit) → put place ≡ o → IsBlock place
    go None none = quiet place (sym (ap (λ (o : Option AnyUnit). is_some o || loose log place) none) ∙ wet)
    go (Some y) some = subst IsBlock (sym (one.only place y some).0) tt

pub tidy_block_law : TidyBlockLaw
tidy_block_law sh log v put a b tidy no_chain one = let kept = block_law sh log v put a b tidy.rests no_chain one in
    let leads : Leads sh log v (block_command v put) =
    record { moments = (good_rests sh log v v v tidy.rests (inl refl), kept.1.good); rests = kept.0 } in (
      record { leads = leads; tidy = record { rests = kept.0; quiet = quiet_block log put a b tidy.quiet one; clear = tidy.clear; whole = whole_block_law sh (now log) put v a b one tidy.whole } },
      λ standing no_reference. keeps_standing sh log v (block_command v put) refl leads
          (λ e c is. miss put (BlockPlace a) (BlockPlace e) (BlockUnit b) one (λ same. no_reference c (ap v.checkpoint.parts.references (let at : a ≡ e = cc (same) in at) ∙ is)), tt) standing,
    )

pub tidy_idle_law : TidyIdleLaw
tidy_idle_law sh log v tidy =
    let leads : Leads sh log v (idle_command v) = record { moments = good_rests sh log v v v tidy.rests (inl refl); rests = tidy.rests } in
    (record { leads = leads; tidy = tidy }, keeps_standing sh log v (idle_command v) refl leads tt)

pub tidy_sync_law : TidySyncLaw
tidy_sync_law sh log v tidy = let after = synced_after sh v log tidy.rests in
    let leads : Leads sh log v (sync_command v) = record { moments = (good_rests sh log v v v tidy.rests (inl refl), good_rests sh (add Synced log) v v v after (inl refl)); rests = after } in (
      record { leads = leads; tidy = record { rests = after; quiet = quiet_synced log; clear = clear_steps sh log v v (Syncs ∷ []) tidy.rests tidy.quiet tidy.clear refl (omega arith) tt; whole = tidy.whole } },
      keeps_standing sh log v (sync_command v) refl leads tt,
    )

-- ---- an update after a sync

pub spare_update : (w : View) (c : Content) (puts : PutsCopies c) → AllSpare w (update_steps puts)
spare_update w c puts = (
  spares_one w puts.put0 (CopyPlace 0) (CopyUnit c) puts.one0 (λ a same. cc (same)),
  (
    spares_one w puts.put1 (CopyPlace 1) (CopyUnit c) puts.one1 (λ a same. cc (same)),
    (spares_one w puts.put2 (CopyPlace 2) (CopyUnit c) puts.one2 (λ a same. cc (same)), (spares_one w puts.put3 (CopyPlace 3) (CopyUnit c) puts.one3 (λ a same. cc (same)), tt)),
  ),
)

-- the blocks that either view references go on standing
pub standing_update :
    (sh : Shape) (log : UnitLog) (v u : View) (c : Content) (puts : PutsCopies c)
    → RestsOn sh log v → AtEach (IsGoodLog sh v u) (add Synced log) (update_steps puts) → IsStanding log v → Stands (now log) u
    → KeepsStanding sh log v (record { steps = Syncs ∷ update_steps puts; view = u })
standing_update sh log v u c puts rests moments standing references =
    let old : IsStanding (add Synced log) v = record { shown = standing.shown; firm = λ a d is. refl } in
    let new : IsStanding (add Synced log) u = record { shown = references; firm = λ a d is. refl } in record {
      moments = (
        record { safe = rests_safe sh log v rests; left = λ image left chance. inl (rests_holds sh log v rests image left chance, (stands_law log v [] standing tt).1 image left chance) },
        standing_all sh (add Synced log) v u (update_steps puts) moments old (spare_update v c puts) new (spare_update u c puts),
      );
      standing = standing_after (add Synced log) u (update_steps puts) new (spare_update u c puts);
    }

pub tidy_finish_law : TidyFinishLaw
tidy_finish_law sh log v c puts tidy may chain = (
  record {
    leads = record { moments = (good_rests sh log v u v tidy.rests (inl refl), update.moments); rests = update.rests };
    tidy = record { rests = update.rests; quiet = λ place wet. absurd (let no_unit : false ≡ true = wet in cc); clear = clear_steps sh log v u (finish_command v c puts).steps tidy.rests tidy.quiet tidy.clear may.is.boot (omega (arith, top)) (low_update (boot_of u) (head u) c.content puts); whole = whole_update_law sh (now log) v c puts tidy.whole };
  },
  standing_update sh log v u c.content puts tidy.rests update.moments,
)
  where
    u : View
    u = checkpointed v c

    top : head u ≡ head v
    top = omega (arith, length-drop (c.content.op - v.checkpoint.content.op) v.tail, may.is.op_from, may.is.op_to)

    log0 : UnitLog
    log0 = add Synced log

    clear0 : IsClear (settled log0) v
    clear0 = clear_steps sh log v v (Syncs ∷ []) tidy.rests tidy.quiet tidy.clear refl (omega arith) tt

    update : Leads sh log0 v (record { steps = update_steps puts; view = checkpointed v c })
    update = (update_law sh log0 v c puts (synced_after sh v log tidy.rests) (λ place. refl) clear0 may tidy.whole.copies chain).leads

-- ---- mending

pub spare_append : (v : View) (ss ts : List Step) → AllSpare v ss → AllSpare v ts → AllSpare v (ss ++ ts)
spare_append v [] ts one two = two
spare_append v ((Puts put) ∷ ss) ts one two = (one.0, spare_append v ss ts one.1 two)
spare_append v (Syncs ∷ ss) ts one two = spare_append v ss ts one two

pub spare_table : (v : View) (table : ℕ → Header) (puts : List Units) → AllPutTable table puts → AllSpare v (all_puts puts)
spare_table v table [] all = tt
spare_table v table (put ∷ puts) all =
    (spares_headers v put (λ place y is. let e = all.0 place y is in (e.0, e.1)), spare_table v table puts all.1)

spare_header_steps : (v : View) (table : ℕ → Header) (puts : List Units) → AllPutTable table puts → AllSpare v (header_steps puts)
spare_header_steps v table [] all = tt
spare_header_steps v table (put ∷ puts) all = spare_append v (all_puts (put ∷ puts)) (Syncs ∷ []) (spare_table v table (put ∷ puts) all) tt

spare_copies : (v : View) (c : Content) (m n : ℕ) (ks : List (ℕ × Units)) → AllPutCopy c m n ks → AllSpare v (copy_steps ks)
spare_copies v c m n [] all = tt
spare_copies v c m n (k ∷ ks) all = (spares_one v k.1 (CopyPlace k.0) (CopyUnit c) all.0 (λ a same. cc (same)), spare_copies v c m n ks all.3)

-- steps that end with a sync leave nothing loose
quiet_copies : (ks : List (ℕ × Units)) (log : UnitLog) → IsQuiet log → IsQuiet (after_steps (copy_steps ks) log)
quiet_copies [] log quiet = quiet
quiet_copies (k ∷ ks) log quiet = quiet_copies ks (add Synced (wrote k.1 log)) (quiet_synced (wrote k.1 log))

quiet_headers : (puts : List Units) (log : UnitLog) → IsQuiet log → IsQuiet (after_steps (header_steps puts) log)
quiet_headers [] log quiet = quiet
quiet_headers (put ∷ puts) log quiet =
    subst IsQuiet (sym (after_append (all_puts (put ∷ puts)) (Syncs ∷ []) log)) (quiet_synced (after_steps (all_puts (put ∷ puts)) log))

pub tidy_mend_law : TidyMendLaw
tidy_mend_law sh log v table headers copies may clear = let mended = mend_law sh log v table headers copies may in
    let spare : AllSpare v (mend_steps headers copies) = spare_append v (header_steps headers) (copy_steps copies) (spare_header_steps
    v table headers may.puts_headers) (spare_copies v v.checkpoint.content may.agreed.first may.agreed.second copies may.puts_copies) in
    let leads : Leads sh log v (mend_command v headers copies) = record { moments = mended.0; rests = mended.1 } in (
      record {
        leads = leads;
        tidy = record {
          rests = mended.1;
          quiet = subst IsQuiet (sym (after_append (header_steps headers) (copy_steps copies) log))
              (quiet_copies copies (after_steps (header_steps headers) log) (quiet_headers headers log may.quiet));
          clear = clear_steps sh log v v (mend_steps headers copies) may.rests may.quiet clear refl (omega arith)
              (low_append (boot_of v) (head v) (header_steps headers) (copy_steps copies) (low_headers (boot_of v) (head v) table headers may.puts_headers) (low_copies (boot_of v) (head v) v.checkpoint.content may.agreed.first may.agreed.second copies may.puts_copies));
          whole = mends_whole_law sh log v table headers copies may;
        };
      },
      keeps_standing sh log v (mend_command v headers copies) refl leads spare,
    )
