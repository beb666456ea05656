-- A mending at each of its moments.
use Rattle.std.proofs.Common.{◌≡◌, inl, inr, ℕ, ◌<◌, List, [], ◌∷◌, Some, refl, sym, ◌∙◌, subst}
use Rattle.df_theory.{specs.{Units.{CopyPlace, CopyUnit, Header, Units}, Shape.{Shape}, View.{View, boot_of}, Holds.{Holds}, Next.{IsSameBare}, UnitLog.{Synced, UnitLog, add, now, wrote}, Rests.{IsDry, IsGoodLog, IsQuiet, RestsOn}, Runs.{AtEach, Puts, Step, Syncs, after_steps}, MakingLaws.{all_puts}, MendLaws.{AllPutCopy, AllPutTable, MayMend, copy_steps, header_steps, mend_steps}}, proofs.Laws.{after_append, copy_law, each_append, each_weaker, good_rests, header_law, put_else, quiet_synced, IsUnderWay, half_way, header_steps_miss, is_mend, missed, under_way_still, dry_copies, dry_headers}}
use Rattle.df_history.{specs.OpenLaws.{MendLivedLaw}, proofs.Moments.{none_mend, IsAsleepMoment, asleep_steps, one_bare, rests_asleep}}

-- ---- the mending: at each moment each image left has the view, and the image as it is now has it

abbrev GoodNow : Shape → View → UnitLog → Type 0
GoodNow sh v log = IsGoodLog sh v v log × Holds sh (now log) v

good_now : (sh : Shape) (log : UnitLog) (v : View) → RestsOn sh log v → GoodNow sh v log
good_now sh log v rests = (good_rests sh log v v v rests (inl refl), rests.holds)

headers_now : (sh : Shape) (v : View) (table : ℕ → Header) (puts : List Units) (log : UnitLog) → RestsOn sh log v → IsUnderWay sh
    (now log) v table → AllPutTable table puts → AtEach (GoodNow sh v) log (all_puts puts) × RestsOn sh (after_steps (all_puts puts) log) v
headers_now sh v table [] log rests way all = (good_now sh log v rests, rests)
headers_now sh v table (put ∷ puts) log rests way all =
    let one = header_law sh log v put rests (is_mend sh v table put (now log) all.0 way) in
    let rest = headers_now sh v table puts (wrote put log) one.0 (under_way_still sh v table put (now log) all.0 way) all.1 in
    ((good_now sh log v rests, rest.0), rest.1)

copies_now : (sh : Shape) (v : View) (m n : ℕ) (ks : List (ℕ × Units)) (log : UnitLog) → m < n
    → n < 4 → now log (CopyPlace m) ≡ Some (CopyUnit v.checkpoint.content) → now log (CopyPlace n) ≡ Some (CopyUnit v.checkpoint.content)
    → RestsOn sh log v → IsQuiet log → AllPutCopy v.checkpoint.content m n ks → AtEach (GoodNow sh v) log (copy_steps ks)
copies_now sh v m n [] log apart inside one two rests quiet all = good_now sh log v rests
copies_now sh v m n (k ∷ ks) log apart inside one two rests quiet all =
    let stepped = copy_law sh log v k.1 k.0 rests quiet all.0 (record { agreed = record { first = m; second = n; apart = apart; inside = inside; at_first = one; at_second = two }; no_first = all.1; no_second = all.2 }) in
    let next : UnitLog = add Synced (wrote k.1 log) in
    let first : now next (CopyPlace m) ≡ Some (CopyUnit v.checkpoint.content) = put_else k.1 (now log) (CopyPlace k.0)
    (CopyPlace m) (CopyUnit v.checkpoint.content) all.0 (λ same. all.1 (let at : CopyPlace m ≡ CopyPlace k.0 = same in cc)) ∙ one in
    let second : now next (CopyPlace n) ≡ Some (CopyUnit v.checkpoint.content) = put_else k.1 (now log) (CopyPlace k.0)
    (CopyPlace n) (CopyUnit v.checkpoint.content) all.0 (λ same. all.2 (let at : CopyPlace n ≡ CopyPlace k.0 = same in cc)) ∙ two in
    (good_now sh log v rests, ((stepped.good, stepped.rests.holds), copies_now sh v m n ks next apart inside first second stepped.rests (quiet_synced (wrote k.1 log)) all.3))

pub mend_now : (sh : Shape) (log : UnitLog) (v : View) (table : ℕ → Header) (headers : List Units) (copies : List (ℕ × Units))
    → MayMend sh log v table headers copies → AtEach (GoodNow sh v) log (mend_steps headers copies)
mend_now sh log v table headers copies may = let done = half_way (GoodNow sh v) sh log v headers (λ l at. good_now sh l v at)
    may.rests may.quiet (headers_now sh v table headers log may.rests (record { each = λ s. (may.tells s).from }) may.puts_headers) in
    let mid : UnitLog = after_steps (header_steps headers) log in let stays : (n : ℕ) → now mid (CopyPlace n) ≡ now log (CopyPlace n) =
    λ n. missed (CopyPlace n) (header_steps headers) log (header_steps_miss table headers may.puts_headers n) in
    let agreed = may.agreed in each_append (GoodNow sh v) (header_steps headers) (copy_steps copies) log done.moments
    (copies_now sh v agreed.first agreed.second copies mid agreed.apart
    agreed.inside (stays agreed.first ∙ agreed.at_first) (stays agreed.second ∙ agreed.at_second) done.rests done.quiet may.puts_copies)

pub mend_lived_law : MendLivedLaw
mend_lived_law sh log before logs w table headers copies lived may = let bare : (x y : View)
    → x ≡ w → y ≡ w → boot_of x ≡ boot_of lived.0.view → IsSameBare x y = λ x y is_x is_y boot. one_bare w x y is_x is_y in
    let of : (l : UnitLog) → GoodNow sh w l → IsAsleepMoment sh before logs lived.1 (boot_of lived.0.view) (λ x. x ≡ w) bare l =
    λ l good. record { safe = good.0.safe; left = λ image left chance. elim (good.0.left image left chance) [ inl is ↦ (w, refl, is) | inr is ↦ (w, refl, is) ]; has = (w, refl, good.1) } in
    asleep_steps sh before logs lived.1 (boot_of lived.0.view) (λ x. x ≡ w) bare (mend_steps headers copies) log (none_mend table headers w.checkpoint.content may.agreed.first may.agreed.second copies may.puts_headers may.puts_copies) (rests_asleep sh log before logs lived (λ x. x ≡ w) bare w may.rests refl)
    (each_weaker (GoodNow sh w) (IsAsleepMoment sh before logs lived.1 (boot_of lived.0.view) (λ x. x ≡ w) bare)
    of (mend_steps headers copies) log (mend_now sh log w table headers copies may))

-- ---- what follows a run of steps

pub each_last : (P : UnitLog → Type 0) (ss : List Step) (log : UnitLog) → AtEach P log ss → P (after_steps ss log)
each_last P [] log at = at
each_last P ((Puts put) ∷ ss) log at = each_last P ss (wrote put log) at.1
each_last P (Syncs ∷ ss) log at = each_last P ss (add Synced log) at.1

pub dry_mend : (hs : List Units) (ks : List (ℕ × Units)) (log : UnitLog) → IsDry log → IsDry (after_steps (mend_steps hs ks) log)
dry_mend hs ks log dry = subst IsDry
    (sym (after_append (header_steps hs) (copy_steps ks) log)) (dry_copies ks (after_steps (header_steps hs) log) (dry_headers hs log dry))

pub start_same : (ss : List Step) (log : UnitLog) → (after_steps ss log).start ≡ log.start
start_same [] log = refl
start_same ((Puts put) ∷ ss) log = start_same ss (wrote put log)
start_same (Syncs ∷ ss) log = start_same ss (add Synced log)
