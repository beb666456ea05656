-- One image more in a log that was restarted: what its own log says of it, said of the history.
use Rattle.std.proofs.Common.{◌≡◌, ◌⊎◌, inl, inr, ℕ, ◌<◌, ◌≤◌, List, [], ◌∷◌, ◌++◌, Some, ap, arith}
use Rattle.df_theory.{specs.{Units.{AnyUnit, BlockPlace, CopyPlace, HeaderPlace, Message, Place, PreparePlace, PrepareUnit, ReplyPlace, Units}, Shape.{Shape}, View.{View, boot_of}, Next.{IsSameBare}, Chance.{InImages}, Grown.{AllInHistory, GoesOn, Grows, IsClear, IsSurvivor}}, proofs.Laws.{one_view, no_choice, next_grew}}
use Rattle.df_history.{specs.Histories.{GrowsOn}, proofs.Joins.{images_either, images_front, next_bare, on_holds}}

-- no prepare that earlier logs settled has a higher boot
abbrev pub AreOld : List Units → ℕ → Type 0
AreOld rest b = (s : ℕ) (p : Message) → InImages rest (PreparePlace s) (PrepareUnit p) → p.header.boot ≤ b

-- each prepare that is shown was settled by the same log
abbrev pub AreShown : List Units → Units → Type 0
AreShown images image = (s : ℕ) (x : AnyUnit) → image (PreparePlace s) ≡ Some x → InImages images (PreparePlace s) x

clear_all : (images rest : List Units) (b : ℕ) (v : View) → AreOld rest b → b < boot_of v → IsClear images v → IsClear (images ++ rest) v
clear_all images rest b v old above clear s p at own = elim (images_either images rest (PreparePlace s) (PrepareUnit p) at) [
  | inl front ↦ clear s p front own
  | inr back ↦ absurd (omega (arith, old s p back, own, above))
]

goes_all : (images rest : List Units) (b : ℕ) (u v : View)
    → AreOld rest b → (b < boot_of u) ⊎ IsSameBare u v → GoesOn images u v → GoesOn (images ++ rest) u v
goes_all images rest b u v old (inl above) goes = record {
  next = goes.next;
  clear = elim goes.clear [ inl same ↦ inl same | inr (inl raised) ↦ inr (inl raised) | inr (inr clear) ↦ inr (inr (clear_all images rest b u old above clear)) ];
}
goes_all images rest b u v old (inr bare) goes = record {
  next = goes.next;
  clear = elim (next_bare u v goes.next bare) [
    | inl same ↦ inl (ap (λ (x : View). x.checkpoint) same, ap (λ (x : View). x.tail) same)
    | inr boots ↦ inr (inl (omega (arith, boots.1.boot, ap boot_of boots.2)))
  ];
}

survivor_all : (images rest : List Units) (b : ℕ) (image : Units) (v : View) → AreOld rest b
    → b < boot_of v → (place : Place) (x : AnyUnit) → IsSurvivor images image v place x → IsSurvivor (images ++ rest) image v place x
survivor_all images rest b image v old above (CopyPlace n) x none = none
survivor_all images rest b image v old above (HeaderPlace n) x none = none
survivor_all images rest b image v old above (PreparePlace n) x (p, is, left) =
    (p, is, record { clear = clear_all images rest b v old above left.clear; own = left.own; cut = left.cut; missing = left.missing; from = left.from; to = left.to; lacks = left.lacks })
survivor_all images rest b image v old above (ReplyPlace n) x none = none
survivor_all images rest b image v old above (BlockPlace n) x none = none

-- where each prepare is old, none survived
survivor_shown : (images rest : List Units) (image : Units) (v : View) → AreShown images image
    → (place : Place) (x : AnyUnit) → image place ≡ Some x → IsSurvivor images image v place x → InImages images place x
survivor_shown images rest image v shown (CopyPlace n) x at none = absurd none
survivor_shown images rest image v shown (HeaderPlace n) x at none = absurd none
survivor_shown images rest image v shown (PreparePlace n) x at survivor = shown n x at
survivor_shown images rest image v shown (ReplyPlace n) x at none = absurd none
survivor_shown images rest image v shown (BlockPlace n) x at none = absurd none

history_all : (images rest : List Units) (b : ℕ) (image : Units) (v : View)
    → AreOld rest b → (b < boot_of v) ⊎ AreShown images image → AllInHistory images image v → AllInHistory (images ++ rest) image v
history_all images rest b image v old by history place x at = elim (history place x at) [
  | inl (inl settled) ↦ inl (inl (images_front images rest place x settled))
  | inl (inr new) ↦ inl (inr new)
  | inr survivor ↦ elim by [
    | inl above ↦ inr (survivor_all images rest b image v old above place x survivor)
    | inr shown ↦ inl (inl (images_front images rest place x (survivor_shown images rest image v shown place x at survivor)))
  ]
]

-- the boot never falls
pub more_boot : (sh : Shape) (rest images : List Units) (j : Units) (u v : View)
    → GrowsOn sh rest images u → Grows sh (j ∷ images) v → boot_of u ≤ boot_of v
more_boot sh rest [] j u v one two = absurd one
more_boot sh rest (i ∷ images) j u v one (holds, inl begins) =
    absurd (no_choice v.checkpoint.content i images begins.2 u.checkpoint.content (on_holds sh rest i images u one).chosen.agreed)
more_boot sh rest (i ∷ images) j u v one (holds, inr (history, (w, goes, grows))) =
    let same = one_view sh i w u grows.0 (on_holds sh rest i images u one) in
    omega (arith, (next_grew sh w v grows.0.bears.sound goes.next).boot, ap boot_of same)

pub grows_more : (sh : Shape) (rest images : List Units) (b : ℕ) (j : Units) (u v : View) → GrowsOn sh rest images u → Grows sh
    (j ∷ images) v → AreOld rest b → (b < boot_of u) ⊎ IsSameBare u v → (b < boot_of v) ⊎ AreShown images j → GrowsOn sh rest (j ∷ images) v
grows_more sh rest [] b j u v one two old bare shown = absurd one
grows_more sh rest (i ∷ images) b j u v one (holds, inl begins) old bare shown =
    absurd (no_choice v.checkpoint.content i images begins.2 u.checkpoint.content (on_holds sh rest i images u one).chosen.agreed)
grows_more sh rest (i ∷ images) b j u v one (holds, inr (history, (w, goes, grows))) old bare shown =
    let same = one_view sh i w u grows.0 (on_holds sh rest i images u one) in
    (holds, history_all (i ∷ images) rest b j v old shown history, (u, goes_all (i ∷ images) rest b u v old bare (rw same at goes), one))
