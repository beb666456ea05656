-- A group, and a boot update, lead to a tidy file.
use Rattle.std.proofs.Common.{◌≡◌, inl, inr, ℕ, ◌-◌, ◌%◌, ◌<◌, List, [], ◌∷◌, ◌++◌, drop, false, true, Option, Some, None, refl, sym, ◌∙◌, ap, subst, arith}
use Rattle.df_theory.{specs.{Units.{AnyUnit, CopyPlace, Header, HeaderPlace, HeaderUnit, Message, Place, PreparePlace, PrepareUnit, Units}, Tails.{In}, Shape.{Shape}, View.{Checkpoint, View, head}, Holds.{IsWhole}, Next.{appended, booted}, UnitLog.{Synced, UnitLog, add, now, settled}, Grown.{IsClear}, Rests.{IsQuiet}, Runs.{Leads, Syncs, after_steps}, MakingLaws.{all_puts}, MendLaws.{AllPutTable, Reaches}, CopyPuts.{update_steps}, WriterLaws.{AllPutPrepare, AreGroupSectors, Flushes, flush_steps}, WholeLaws.{AllSpare}, GroupLaws.{ClearLaw, FlushRingLaw, IsGroupTable, TidyBootLaw, TidyFlushLaw, boot_command, flush_command}}, proofs.{Tails.{in_either}, Agreeing.{prepare_agrees}, Clear.{IsLow, clear_one, low_steps, low_update}, Flushes.{group_slot}, FlushLaws.{flush_law}, Keeps.{whole_update_law}, Mends.{AllMiss, headers_miss, headers_shown, missed, synced_after}, Runs.{after_append}, Standing.{keeps_standing, spares_one}, Tidy.{spare_append, spare_table, standing_update}, Writes.{boot_law, good_rests, quiet_synced}}}

pub clear_law : ClearLaw
clear_law sh log v rests none = clear_one sh log v rests none

-- ---- a group

-- the prepares reach no header and no copy
prepares_miss : (sh : Shape) (qs : List Message) (puts : List Units) (place : Place)
    → AllPutPrepare sh qs puts → ((s : ℕ) → place ≡ PreparePlace s → ⊥) → AllMiss place (all_puts puts)
prepares_miss sh [] [] place all away = tt
prepares_miss sh (q ∷ qs) (put ∷ puts) place all away = (go (put place) refl, prepares_miss sh qs puts place all.1 away)
  where
    go : (o : Option AnyUnit) → put place ≡ o → put place ≡ None
    go None none = none
    go (Some y) some = absurd (away (q.header.op % sh.layout.slots) (all.0.only place y some).0)
prepares_miss sh [] (put ∷ puts) place all away = absurd all
prepares_miss sh (q ∷ qs) [] place all away = absurd all

spare_prepares : (sh : Shape) (v : View) (qs : List Message) (puts : List Units) → AllPutPrepare sh qs puts → AllSpare v (all_puts puts)
spare_prepares sh v [] [] all = tt
spare_prepares sh v (q ∷ qs) (put ∷ puts) all = (spares_one v put (PreparePlace (q.header.op % sh.layout.slots)) (PrepareUnit q) all.0 (λ a same. cc (same)), spare_prepares sh v qs puts all.1)
spare_prepares sh v [] (put ∷ puts) all = absurd all
spare_prepares sh v (q ∷ qs) [] all = absurd all

table_sectors : (sh : Shape) (image : Units) (ps : List Message) (table : ℕ → Header) (headers puts : List Units) → IsGroupTable sh image ps table headers → ((s : ℕ) → Reaches puts (HeaderPlace s) → s < sh.layout.slots) → AllPutTable table puts → AreGroupSectors sh image ps puts
table_sectors sh image ps table headers [] is inside all = tt
table_sectors sh image ps table headers (put ∷ puts) is inside all = (
  record {
    each = λ place y shown. let e = all.0 place y shown in
        (e.0, table e.0, e.1, e.2, elim (is.from e.0 (inside e.0 (inl (y, ap put (sym e.1) ∙ shown)))) [ inl old ↦ inl old | inr new ↦ inr (new.0, new.1, new.2, new.3) ]);
  },
  table_sectors sh image ps table headers puts is (λ s more. inside s (inr more)) all.1,
)

-- the log after a flush, part by part
flush_ends : (prepares headers : List Units) (log : UnitLog) → after_steps (flush_steps prepares headers) log
    ≡ add Synced (after_steps (all_puts headers) (add Synced (after_steps (all_puts prepares) log)))
flush_ends prepares headers log = after_append (all_puts prepares) (Syncs ∷ (all_puts headers ++ Syncs ∷ [])) log
    ∙ after_append (all_puts headers) (Syncs ∷ []) (add Synced (after_steps (all_puts prepares) log))

pub flush_ring_law : FlushRingLaw
flush_ring_law sh log ps qs prepares table headers all all_table is s below = let log1 = add Synced (after_steps (all_puts prepares) log) in
    let still : now log1 (HeaderPlace s) ≡ now log (HeaderPlace s) =
    missed (HeaderPlace s) (all_puts prepares) log (prepares_miss sh qs prepares (HeaderPlace s) all (λ t e. cc (e))) in
    ap (λ (l : UnitLog). now l (HeaderPlace s)) (flush_ends prepares headers log)
    ∙ headers_shown table headers log1 all_table s (elim (is.from s below) [
      | inl old ↦ inl (still ∙ old)
      | inr new ↦ inr (rw (sym new.2) at (is.reached new.0 new.1))
    ])

pub tidy_flush_law : TidyFlushLaw
tidy_flush_law sh log v ps qs prepares table headers tidy may boots same all all_table is = (
  record { leads = flush.leads; tidy = record { rests = flush.leads.rests; quiet = quiet; clear = flush.clear; whole = whole } },
  keeps_standing sh log v (flush_command v ps prepares headers) refl flush.leads (spare_append v (all_puts prepares) (Syncs ∷ (all_puts headers ++ Syncs ∷ [])) (spare_prepares sh v qs prepares all) (spare_append v (all_puts headers) (Syncs ∷ []) (spare_table v table headers all_table) tt)),
)
  where
    flush : Flushes sh log v (appended v ps) prepares headers
    flush = flush_law sh log v ps qs prepares headers
        tidy.rests tidy.quiet tidy.clear may boots same all (table_sectors sh (now log) ps table headers headers is is.inside all_table)

    done : UnitLog
    done = after_steps (all_puts prepares) log

    log1 : UnitLog
    log1 = add Synced done

    log2 : UnitLog
    log2 = after_steps (all_puts headers) log1

    end_is : after_steps (flush_steps prepares headers) log ≡ add Synced log2
    end_is = flush_ends prepares headers log

    quiet : IsQuiet (after_steps (flush_steps prepares headers) log)
    quiet = subst IsQuiet (sym end_is) (quiet_synced log2)

    copy_still : (n : ℕ) → now log2 (CopyPlace n) ≡ now log (CopyPlace n)
    copy_still n = missed (CopyPlace n) (all_puts headers) log1 (headers_miss table headers all_table n)
        ∙ missed (CopyPlace n) (all_puts prepares) log (prepares_miss sh qs prepares (CopyPlace n) all (λ t e. cc (e)))

    shown : (s : ℕ) → s < sh.layout.slots → now log2 (HeaderPlace s) ≡ Some (HeaderUnit (table s))
    shown s below = sym (ap (λ (l : UnitLog). now l (HeaderPlace s)) end_is)
        ∙ flush_ring_law sh log ps qs prepares table headers all all_table is s below

    right : (s : ℕ) → s < sh.layout.slots → (q : Message) → In q (v.tail ++ ps) → s ≡ q.header.op % sh.layout.slots → q.header ≡ table s
    right s below q at slot = elim (in_either q v.tail ps at) [
      | inr new ↦ sym (ap table slot ∙ is.own q new)
      | inl old ↦ elim (is.from s below) [
        | inl before ↦ let h = tidy.whole.headers s below in
            let one : h.0 ≡ table s = (let both : Some (HeaderUnit h.0) ≡ Some (HeaderUnit (table s)) = sym h.1 ∙ before in cc) in
            h.2 q old slot ∙ one
        | inr new ↦
            absurd (group_slot sh v ps tidy.rests.holds.bears.sound may boots new.0 new.1 (PrepareUnit q) (q, old, sym new.2 ∙ slot, refl))
      ]
    ]

    whole : IsWhole sh (now (after_steps (flush_steps prepares headers) log)) (appended v ps)
    whole = subst (λ (l : UnitLog). IsWhole sh (now l) (appended v ps)) (sym end_is) (record {
      copies = λ n below. copy_still n ∙ tidy.whole.copies n below;
      headers = λ s below. (table s, shown s below, λ q at slot. right s below q at slot);
    })

-- ---- a boot update

pub tidy_boot_law : TidyBootLaw
tidy_boot_law sh log v d puts mended may = (
  record {
    leads = record { moments = (good_rests sh log v u v mended.rests (inl refl), update.moments); rests = update.rests };
    tidy = record { rests = update.rests; quiet = λ place wet. absurd (let no_unit : false ≡ true = wet in cc); clear = clear; whole = whole };
  },
  λ standing. standing_update sh log v u d puts mended.rests update.moments standing standing.shown,
)
  where
    u : View
    u = booted v d

    log0 : UnitLog
    log0 = add Synced log

    update : Leads sh log0 v (record { steps = update_steps puts; view = booted v d })
    update = (boot_law sh log0 v d puts (synced_after sh v log mended.rests) (λ place. refl) may mended.whole.copies).0.leads

    -- what was settled is of an earlier boot
    low : IsLow d.boot (head u) log
    low = record {
      settled = λ s p at own. let a = mended.rests.old (PreparePlace s) (PrepareUnit p) at in let same : a.0 ≡ p = (let e = a.1 in cc) in
          absurd (omega (arith, a.2.boot, ap (λ (w : Message). w.header.boot) same, may.is.boot));
      shown = λ s p is own. absurd (omega
          (arith, (prepare_agrees sh (now log) v mended.rests.holds.bears.sound mended.rests.holds.bears.agrees s p is).boot, may.is.boot));
    }

    clear : IsClear (settled (after_steps (boot_command v d puts).steps log)) u
    clear = (low_steps d.boot (head u) (boot_command v d puts).steps log (low_update d.boot (head u) d puts) low).settled

    c : Checkpoint
    c = record { content = d; chain = v.checkpoint.chain; parts = v.checkpoint.parts }

    whole : IsWhole sh (now (after_steps (boot_command v d puts).steps log)) u
    whole = let after = whole_update_law sh (now log) v c puts mended.whole in
        let none : d.op - v.checkpoint.content.op ≡ 0 = omega (arith, may.is.same.op.0) in record {
          copies = after.copies;
          headers = λ s below. let h = after.headers s below in (h.0, h.1, λ p at slot. h.2 p (rw none at) slot);
        }
