-- The log of a disk in memory is one that a disk can have.
use Rattle.std.proofs.{Common.{◌≡◌, ℕ, ◌+◌, ◌<◌, true, List, [], ◌∷◌, ◌++◌, length, take, get_or, sym, ap, subst, ◌∙◌}, lemmas.List.{take_more, map-append}}
use Rattle.df_base.specs.{Image.{IsSector}, Log.{Event, AreLoose, loose_of}}
use Rattle.df_memdisk.specs.{History.{changes_of}, declared.change.Change.{Change}}

AreLoose-push : (es : List Event) (cs : List (ℕ × List ℕ)) (c : ℕ × List ℕ)
    → AreLoose es cs → loose_of es c.0 ≡ true → IsSector c.1 → AreLoose es (cs ++ c ∷ [])
AreLoose-push es [] c are here whole = (here, whole, tt)
AreLoose-push es (d ∷ cs) c are here whole = (are.0, are.1, AreLoose-push es cs c are.2 here whole)

pub AreLoose-take : (es : List Event) (changes : List Change) (k : ℕ) (d : Change)
    → k < length changes → AreLoose es (changes_of (take k changes))
    → loose_of es (get_or changes k d).sector ≡ true → IsSector (get_or changes k d).bytes → AreLoose es (changes_of (take (k + 1) changes))
AreLoose-take es changes k d within are here whole = let c : Change = get_or changes k d in
    let more : changes_of (take k changes ++ c ∷ []) ≡ changes_of (take k changes) ++ (c.sector, c.bytes) ∷ [] =
    map-append (λ (change : Change). (change.sector, change.bytes)) (take k changes) (c ∷ []) in
    let all : changes_of (take (k + 1) changes) ≡ changes_of (take k changes) ++ (c.sector, c.bytes) ∷ [] =
    ap (λ (cs : List Change). changes_of cs) (take_more changes k d within) ∙ more in
    subst (AreLoose es) (sym all) (AreLoose-push es (changes_of (take k changes)) (c.sector, c.bytes) are here whole)
