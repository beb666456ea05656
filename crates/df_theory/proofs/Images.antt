-- Images that hold a view.
use Rattle.std.proofs.Common.{◌≡◌, ◌⊎◌, inl, inr, ℕ, ◌%◌, ◌≤◌, [], ◌∷◌, Some, None, refl, sym, ◌∙◌, arith}
use Rattle.df_theory.specs.{Units.{AnyUnit, Content, CopyPlace, CopyUnit, Message, Place, PreparePlace, PrepareUnit, Units}, Shape.{Shape}, Copies.{Agree, IsChosen}, View.{View, boot_of, head}, Shows.{Agrees, Needs}, Holds.{Bears, Holds}, Groups.{IsShort}}

-- nothing is needed at this place, and what is shown agrees
pub record IsOpen (sh : Shape) (v : View) (j : Units) (place : Place) : Type 0 where
  pub needless : (x : AnyUnit) → Needs sh v place x → ⊥
  pub agrees : (x : AnyUnit) → j place ≡ Some x → Agrees sh v place x

pub bears_open : (sh : Shape) (v : View) (i j : Units)
    → Bears sh i v → ((place : Place) → (j place ≡ i place) ⊎ IsOpen sh v j place) → Bears sh j v
bears_open sh v i j bears each = record {
  sound = bears.sound;
  agrees = λ place x is. elim (each place) [
    | inl same ↦ bears.agrees place x (sym same ∙ is)
    | inr calm ↦ calm.agrees x is
  ];
  needs = λ place x need. elim (each place) [
    | inl same ↦ same ∙ bears.needs place x need
    | inr calm ↦ absurd (calm.needless x need)
  ];
}

agree_same : (i j : Units) (c : Content) → ((k : ℕ) → j (CopyPlace k) ≡ i (CopyPlace k)) → Agree i c → Agree j c
agree_same i j c same a = record { first = a.first; second = a.second; apart = a.apart; inside = a.inside; at_first = same a.first ∙ a.at_first; at_second = same a.second ∙ a.at_second }

-- equal copies choose the same
pub chosen_same : (i j : Units) (c : Content) → ((k : ℕ) → j (CopyPlace k) ≡ i (CopyPlace k)) → IsChosen i c → IsChosen j c
chosen_same i j c same h = record {
  agreed = agree_same i j c same h.agreed;
  greatest = λ d a. h.greatest d (agree_same j i d (λ k. sym (same k)) a);
  lowest = λ d a tie n below shown. let k = h.lowest d (agree_same j i d (λ m. sym (same m)) a) tie n below (sym (same n) ∙ shown) in
      (k.0, k.1, same k.0 ∙ k.2);
}

-- ---- what survived above the head

-- nothing of the view's boot is shown above its head
abbrev pub IsClearIn : Units → View → Type 0
IsClearIn image v = (s : ℕ) (p : Message) → image (PreparePlace s) ≡ Some (PrepareUnit p) → p.header.boot ≡ boot_of v → p.header.op ≤ head v

pub short_clear : (sh : Shape) (image : Units) (v : View) → IsClearIn image v → IsShort sh image v
short_clear sh image v clear [] more = omega (arith, more.some)
short_clear sh image v clear (p ∷ ps) more = let own = more.behind.shown p (inl refl) in
    let low = clear (p.header.op % sh.layout.slots) p own.shown own.own in omega (arith, low, more.behind.chain.0.op_is)

pub short_same : (sh : Shape) (i j : Units) (v : View) → ((s : ℕ) → j (PreparePlace s) ≡ i (PreparePlace s)) → IsShort sh i v → IsShort sh j v
short_same sh i j v same short ps more = short ps (record {
  behind = record {
    room = more.behind.room;
    shown = λ p at. let own = more.behind.shown p at in record { shown = sym (same (p.header.op % sh.layout.slots)) ∙ own.shown; own = own.own };
    chain = more.behind.chain;
    grouped = more.behind.grouped;
  };
  some = more.some;
  ends = more.ends;
})

-- an image that shows nothing has no view
pub unheld : (sh : Shape) (u : Units) (v : View) → ((place : Place) → u place ≡ None) → Holds sh u v → ⊥
unheld sh u v blank holds =
    let both : Some (CopyUnit v.checkpoint.content) ≡ None = sym holds.chosen.agreed.at_first ∙ blank (CopyPlace holds.chosen.agreed.first) in
    cc
