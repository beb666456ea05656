-- A group, with its header sectors: each moment of it.
use Rattle.std.proofs.Common.{◌≡◌, ◌⊎◌, inl, inr, ℕ, ◌+◌, ◌%◌, ◌<◌, ◌≤◌, List, [], ◌∷◌, ◌++◌, length, Some, refl, sym, ◌∙◌, ap, subst, arith, length-append}
use Rattle.df_theory.{specs.{Units.{AnyUnit, Header, HeaderPlace, HeaderUnit, Message, Place, PreparePlace, PrepareUnit, Units}, Tails.{In, last_checksum}, Shape.{Shape}, View.{View, boot_of, head}, Holds.{Sound}, Next.{Append, MayAppend, appended}, UnitLog.{Synced, UnitLog, add, now, settled, wrote}, Chance.{InImages}, Grown.{IsClear}, Rests.{IsCalm, IsCalmPut, IsGoodLog, IsQuiet, MaySettle, RestsOn}, Runs.{AtEach, Syncs, after_steps}, MakingLaws.{all_puts}, WriterLaws.{AllPutPrepare, AreGroupSectors, FlushLaw, flush_steps}}, proofs.{Tails.{in_back, turn_ops}, Grew.{agrees_grew, next_grew}, Flushes.{begins, group_synced, moments}, Writes.{calm_law, good_both, good_rests}, Mends.{synced_after}, Runs.{after_append, each_append, each_weaker}, Clear.{AllLow, clear_steps, low_append}}}

-- calm writes, one after the other
abbrev AllCalm : Shape → List Units → View → List Units → Type 0
AllCalm sh images v [] = Unit {0}
AllCalm sh images v (put ∷ puts) = IsCalmPut sh images v put × AllCalm sh images v puts

calm_puts : (sh : Shape) (v : View) (puts : List Units) (log : UnitLog) → RestsOn sh log v
    → AllCalm sh (settled log) v puts → AtEach (IsGoodLog sh v v) log (all_puts puts) × RestsOn sh (after_steps (all_puts puts) log) v
calm_puts sh v [] log rests all = (good_rests sh log v v v rests (inl refl), rests)
calm_puts sh v (put ∷ puts) log rests all = let rest = calm_puts sh v puts (wrote put log) (calm_law sh log v put rests all.0).0 all.1 in
    ((good_rests sh log v v v rests (inl refl), rest.0), rest.1)

module _ (sh : Shape) (log : UnitLog) (v : View)
    (ps : List Message) (rests : RestsOn sh log v) (quiet : IsQuiet log) (clear : IsClear (settled log) v) (may : MayAppend sh v ps) where
  abbrev u : View
  u = appended v ps

  sound : Sound sh v
  sound = rests.holds.bears.sound

  head_is : head (appended v ps) ≡ head v + length ps
  head_is = omega (arith, length-append v.tail ps)

  group_ops : (p : Message) → In p ps → (head v < p.header.op) × (p.header.op ≤ head v + length ps)
  group_ops p at = let t = turn_ops (head v + 1) (last_checksum v.checkpoint.content.op_checksum v.tail) ps p may.is.turn at in
      (omega (arith, t.0), omega (arith, t.1))

  -- a header of the group, or one that the ring shows
  may_header : (images : List Units) → ((place : Place) (x : AnyUnit) → InImages (settled log) place x → InImages images place x) → (s : ℕ) (h : Header) → (now log (HeaderPlace s) ≡ Some (HeaderUnit h)) ⊎ ((p : Message) × In p ps × (s ≡ p.header.op % sh.layout.slots) × (h ≡ p.header)) → MaySettle sh images (appended v ps) (HeaderPlace s) (HeaderUnit h)
  may_header images more s h (inl shown) = record {
    agrees = agrees_grew sh v (appended v ps) (next_grew sh v (appended v ps) sound (Append ps may.is)) (HeaderPlace s) (HeaderUnit h)
        (inr (inr (λ t p is unit own. absurd (let same = is in cc)))) (rests.holds.bears.agrees (HeaderPlace s) (HeaderUnit h) shown);
    history = elim (rests.pooled (HeaderPlace s) (HeaderUnit h) shown) [
      | inl old ↦ inl (more (HeaderPlace s) (HeaderUnit h) old)
      | inr pending ↦ absurd (quiet (HeaderPlace s) (rests.pending (HeaderPlace s) (HeaderUnit h) pending).0)
    ];
  }
  may_header images more s h (inr of) = let ops = group_ops of.0 of.1 in let stamped = may.is.stamped of.0 of.1 in
      let op_is : h.op ≡ of.0.header.op = ap (λ (x : Header). x.op) of.3 in record {
        agrees = (
          h,
          refl,
          record {
            op = λ own. omega (arith, ops.1, op_is, head_is);
            ring = omega (arith, ops.1, op_is, may.room);
            checkpoint = omega (arith, ap (λ (x : Header). x.checkpoint) of.3, stamped.checkpoint);
            boot = omega (arith, ap (λ (x : Header). x.boot) of.3, stamped.boot);
            slot = λ above. of.2 ∙ ap (λ (n : ℕ). n % sh.layout.slots) (sym op_is);
            in_tail = λ own above. (of.0, in_back of.0 v.tail ps of.1, sym op_is, ap (λ (x : Header). x.checksum) (sym of.3));
          },
        );
        history = inr (h, refl, inr (of.0, in_back of.0 v.tail ps of.1, sym of.3));
      }

  sectors_calm : (images : List Units) → ((place : Place) (x : AnyUnit) → InImages (settled log) place x → InImages images place x)
      → (puts : List Units) → AreGroupSectors sh (now log) ps puts → AllCalm sh images (appended v ps) puts
  sectors_calm images more [] all = tt
  sectors_calm images more (put ∷ puts) all = (
    λ place y is. let e = all.0.each place y is in rw e.2
        (subst (λ (x : AnyUnit). IsCalm sh (appended v ps) (HeaderPlace e.0) × MaySettle sh images (appended v ps) (HeaderPlace e.0) x) (sym e.3)
        (record { no_copy = λ copy. copy; no_prepare = λ prepare. prepare; needless = λ x need. need }, may_header images more e.0 e.1 e.4)),
    sectors_calm images more puts all.1,
  )

  low_prepares : (qs : List Message) (puts : List Units)
      → ((p : Message) → In p qs → In p ps) → AllPutPrepare sh qs puts → AllLow (boot_of v) (head (appended v ps)) (all_puts puts)
  low_prepares [] [] inside all = tt
  low_prepares (q ∷ qs) (put ∷ puts) inside all = (
    λ s p is own. let at = (all.0.only (PreparePlace s) (PrepareUnit p) is).1 in let same : p ≡ q = cc in
        omega (arith, ap (λ (w : Message). w.header.op) same, (group_ops q (inside q (inl refl))).1, head_is),
    low_prepares qs puts (λ p at. inside p (inr at)) all.1,
  )
  low_prepares [] (put ∷ puts) inside all = absurd all
  low_prepares (q ∷ qs) [] inside all = absurd all

  low_sectors : (puts : List Units) → AreGroupSectors sh (now log) ps puts → AllLow (boot_of v) (head (appended v ps)) (all_puts puts)
  low_sectors [] all = tt
  low_sectors (put ∷ puts) all =
      (λ s p is own. absurd (let at = (all.0.each (PreparePlace s) (PrepareUnit p) is).2 in cc), low_sectors puts all.1)

-- what was settled stays so
more_settled : (puts : List Units) (log : UnitLog) (place : Place) (x : AnyUnit)
    → InImages (settled log) place x → InImages (settled (after_steps (all_puts puts) log)) place x
more_settled [] log place x at = at
more_settled (put ∷ puts) log place x at = more_settled puts (wrote put log) place x at

pub flush_law : FlushLaw
flush_law sh log v ps qs prepares headers rests quiet clear may boots same all sectors = let sound : Sound sh v = rests.holds.bears.sound in
    let mid = begins sh v ps sound may boots log rests quiet clear in
    let group = (moments sh v ps sound may boots qs prepares log same.there all mid).0 in
    let done : UnitLog = after_steps (all_puts prepares) log in let log1 : UnitLog = add Synced done in
    let rests1 : RestsOn sh log1 (appended v ps) = group_synced sh v ps sound may boots qs prepares log same all mid in
    let calm = calm_puts sh (appended v ps) headers log1 rests1 (sectors_calm
    sh log v ps rests quiet clear may (settled log1) (λ place x at. inr (more_settled prepares log place x at)) headers sectors) in
    let log2 : UnitLog = after_steps (all_puts headers) log1 in
    let rests2 : RestsOn sh (add Synced log2) (appended v ps) = synced_after sh (appended v ps) log2 calm.1 in
    let after : AtEach (IsGoodLog sh (appended v ps) (appended v ps)) log1 (all_puts headers ++ Syncs ∷ []) =
    each_append (IsGoodLog sh (appended v ps) (appended v ps)) (all_puts headers) (Syncs ∷ []) log1 calm.0
    (good_rests sh log2 (appended v ps) (appended v ps) (appended v ps) calm.1 (inl refl), good_rests sh (add Synced log2) (appended v ps) (appended v ps) (appended v ps) rests2 (inl refl)) in
    let end_is : after_steps (flush_steps prepares headers) log ≡ add Synced log2 =
    after_append (all_puts prepares) (Syncs ∷ (all_puts headers ++ Syncs ∷ [])) log ∙ after_append (all_puts headers) (Syncs ∷ []) log1 in
    record {
      loose = group;
      synced = rests1;
      after = after;
      clear = clear_steps sh log v (appended v ps) (flush_steps prepares headers) rests quiet clear refl (omega (arith, length-append v.tail ps))
          (low_append (boot_of v) (head (appended v ps)) (all_puts prepares)
          (Syncs ∷ (all_puts headers ++ Syncs ∷ [])) (low_prepares sh log v ps rests quiet clear may qs prepares same.there all)
          (low_append (boot_of v)
          (head (appended v ps)) (all_puts headers) (Syncs ∷ []) (low_sectors sh log v ps rests quiet clear may headers sectors) tt));
      leads = record {
        moments = each_append (IsGoodLog sh v (appended v ps)) (all_puts prepares) (Syncs ∷ (all_puts headers ++ Syncs ∷ [])) log group
            (moment_last sh v (appended v ps) prepares log group, each_weaker (IsGoodLog sh (appended v ps) (appended v ps)) (IsGoodLog sh v (appended v ps)) (λ l good. good_both sh l v (appended v ps) good) (all_puts headers ++ Syncs ∷ []) log1 after);
        rests = rw (sym end_is) at rests2;
      };
    }
  where
    -- the last moment of some steps
    moment_last : (sh : Shape) (v u : View) (puts : List Units) (log : UnitLog)
        → AtEach (IsGoodLog sh v u) log (all_puts puts) → IsGoodLog sh v u (after_steps (all_puts puts) log)
    moment_last sh v u [] log each = each
    moment_last sh v u (put ∷ puts) log each = moment_last sh v u puts (wrote put log) each.1
