-- What a plan means on an image that is found: where each header comes from, and that a slot that isn't listed shows it already.
use Rattle.std.{proofs.{Common.{◌≡◌, inl, inr, ℕ, ◌+◌, ◌<◌, ◌≤◌, ◌%◌, List, [], length, Bool, true, false, Option, Some, None, refl, sym, ◌∙◌, ap, subst, arith}, lemmas.Bool.{cases_lt, cond-false, cond-true, eqb-true, le-leb, le-ltb, lt-leb, lt-ltb, not-false}, lemmas.Option.{slice_get_past}, Math.Nat.{mod-lt}}, specs.Prelude.{Result, Ok, Err, nat_le, nat_lt, not}}
use Rattle.df_layout.specs.{declared.damage.Class.{Class}, declared.layout.Layout.{Layout}, declared.places.Zone.TheVariants.{WalHeaders, WalPrepares}}
use Rattle.df_format.{specs.{declared.header.Header.{Header}, declared.kind.Kind.{Kind}, Own.{place_in}, Rules.{ObeysKind, ObeysReserved}, Valid.{IsInSlot}}, proofs.Laws.{valid_belongs}}
use Rattle.df_cases.specs.{declared.cases.Decision.{Decision}, declared.cases.Decision.TheVariants.{Behind, Empty, Lost, Take}, Cases.{decision_of}}
use Rattle.df_theory.specs.Units
use Rattle.df_theory.{specs.{Units.{AnyUnit, BlockUnit, CopyUnit, HeaderPlace, HeaderUnit, Message, PreparePlace, PrepareUnit, ReplyUnit}, Cases.{IsNow, SaysOfSlot, cut, decision, is_nothing, seen_header}, MendLaws.{IsFromSlot, IsSlotHeader, IsTable}, Shape.{Shape, clients, slots}, Tails.{Chain, In}, View.{View, head}}, proofs.Laws.{chain_at, chain_ops, decision_law, in_one}}
use Rattle.df_theory.specs.Cases
use Rattle.{df_units.specs.Meaning.{header_of}, df_places.specs.Units.{IsThere}}
use Rattle.df_journal.{specs.{Planned.{named, planned, shows_header}, Scan.{Scan, entry}, Seen.{IsOpOf, header_of_seen}, Shows.{IsHeaderThere, IsSlot, ShowsHeader, ShowsPrepare, ShowsSlot}, declared.table.Start.{Start}}, proofs.Laws.{one_op}}
use Rattle.df_recovery.{specs.Plan.{AreDistinctUnits, ArePlanned, IsScanOf, OthersAreShown, header_by, header_or_none, header_or_reserved, headers_in, is_mended, op_above_in_slot}, proofs.Plans.{entry_there, op_in_is}}

-- ---- what is shown of a slot

-- the header ring shows what was seen
header_seen : (cluster slot : ℕ) (x : Option AnyUnit) (r : Result Header Class) (h : Units.Header)
    → ShowsHeader x r → x ≡ Some (HeaderUnit h) → header_of (header_or_reserved cluster slot (header_of_seen r)) ≡ h
header_seen cluster slot x (Ok g) h shows is = let both : Some (HeaderUnit (header_of g)) ≡ Some (HeaderUnit h) = sym shows ∙ is in cc
header_seen cluster slot x (Err class) h shows is = let both : None ≡ Some (HeaderUnit h) = sym shows ∙ is in absurd (cc)

prepare_seen : (cluster slot : ℕ) (x : Option AnyUnit) (r : Result Header Class) (p : Message)
    → ShowsPrepare x r → x ≡ Some (PrepareUnit p) → header_of (header_or_reserved cluster slot (header_of_seen r)) ≡ p.header
prepare_seen cluster slot x (Ok g) p (q, shown, same) is = let both : Some (PrepareUnit q) ≡ Some (PrepareUnit p) = sym shown ∙ is in
    let one : q ≡ p = cc in sym same ∙ ap (λ (m : Message). m.header) one
prepare_seen cluster slot x (Err class) p shows is = let both : None ≡ Some (PrepareUnit p) = sym shows ∙ is in absurd (cc)

-- a header that is shown, or a reserved one
shown_from : (sh : Shape) (image : Units.Units) (v : View) (cluster slot : ℕ) (r : Result Header Class)
    → ShowsHeader (image (HeaderPlace slot)) r → IsFromSlot sh image v slot (header_of (header_or_reserved cluster slot (header_of_seen r)))
shown_from sh image v cluster slot (Ok h) shows = inl shows
shown_from sh image v cluster slot (Err class) shows = inr (inr (record { op = refl; checkpoint = refl; boot = refl }))

-- a unit that is shown belongs in its slot, but for a reserved header
header_slot : (layout : Layout) (cluster slot : ℕ) (x : Option AnyUnit) (r : Result Header Class) (h : Units.Header)
    → ShowsHeader x r → IsHeaderThere layout cluster slot r → x ≡ Some (HeaderUnit h) → 0 < h.op → h.op % layout.slots ≡ slot
header_slot layout cluster slot x (Ok g) h shows there is some =
    let both : Some (HeaderUnit (header_of g)) ≡ Some (HeaderUnit h) = sym shows ∙ is in let one : header_of g ≡ h = cc in
    let op : g.op ≡ h.op = ap (λ (k : Units.Header). k.op) one in
    elim (valid_belongs layout cluster (place_in WalHeaders slot) (record { header = g; body = [] }) there).belongs [
      | inl reserved ↦ let rules : ObeysReserved g = subst (λ (kind : Kind). ObeysKind kind g) reserved.kind there.sealed.rules.kind in
          absurd (omega (arith, rules.op, op, some))
      | inr own ↦ ap (λ (k : ℕ). k % layout.slots) (sym op) ∙ own.op
    ]
header_slot layout cluster slot x (Err class) h shows there is some = let both : None ≡ Some (HeaderUnit h) = sym shows ∙ is in absurd (cc)

prepare_slot : (layout : Layout) (cluster slot : ℕ) (x : Option AnyUnit) (r : Result Header Class) (p : Message)
    → ShowsPrepare x r → IsThere layout cluster (place_in WalPrepares slot) r → x ≡ Some (PrepareUnit p) → p.header.op % layout.slots ≡ slot
prepare_slot layout cluster slot x (Ok g) p (q, shown, same) (body, there) is =
    let both : Some (PrepareUnit q) ≡ Some (PrepareUnit p) = sym shown ∙ is in let one : q ≡ p = cc in
    let op : p.header.op ≡ g.op = ap (λ (m : Message). m.header.op) (sym one) ∙ ap (λ (k : Units.Header). k.op) same in
    let own : IsInSlot layout slot g =
    (valid_belongs layout cluster (place_in WalPrepares slot) (record { header = g; body = body }) there).belongs in
    ap (λ (k : ℕ). k % layout.slots) op ∙ own.op
prepare_slot layout cluster slot x (Err class) p shows there is = let both : None ≡ Some (PrepareUnit p) = sym shows ∙ is in absurd (cc)

-- ---- the decision on a slot, once the head is known

-- up to the head that the superblock names its prepare is taken
planned_low : (n top o : ℕ) (start : Start) (image : Units.Units)
    → o ≤ start.head → planned n start top image o ≡ named (image (HeaderPlace (o % n))) (image (PreparePlace (o % n)))
planned_low n top o start image low = cond-true (nat_le o start.head) _ _ (le-leb o start.head low)

-- above it the table decides
planned_middle : (n top o : ℕ) (start : Start) (image : Units.Units)
    → start.head < o → o ≤ top → planned n start top image o ≡ decision n start.boot image o
planned_middle n top o start image above low =
    cond-false (nat_le o start.head) _ _ (lt-leb o start.head above) ∙ cond-false (nat_lt top o) _ _ (le-ltb top o low)

-- and above the head that was found a prepare was cut off
planned_high : (n top o : ℕ) (start : Start) (image : Units.Units) → start.head < o
    → top < o → planned n start top image o ≡ cut (seen_header start.boot o (image (HeaderPlace (o % n)))) (decision n start.boot image o)
planned_high n top o start image above high =
    cond-false (nat_le o start.head) _ _ (lt-leb o start.head above) ∙ cond-true (nat_lt top o) _ _ (lt-ltb top o high)

-- a named prepare that is shown is taken, and unless its header is to be mended that is shown as well
shows_some : (checksum : ℕ) (x : Option AnyUnit)
    → shows_header checksum x ≡ true → (h : Units.Header) × (x ≡ Some (HeaderUnit h)) × (h.checksum ≡ checksum)
shows_some checksum (Some (HeaderUnit h)) is = (h, refl, eqb-true h.checksum checksum is)
shows_some checksum (Some (CopyUnit c)) is = absurd (cc)
shows_some checksum (Some (PrepareUnit p)) is = absurd (cc)
shows_some checksum (Some (ReplyUnit r)) is = absurd (cc)
shows_some checksum (Some (BlockUnit b)) is = absurd (cc)
shows_some checksum None is = absurd (cc)

-- a header that proves something is shown
seen_some : (b o : ℕ) (x : Option AnyUnit) → is_nothing (seen_header b o x) ≡ false → (h : Units.Header) × (x ≡ Some (HeaderUnit h))
seen_some b o (Some (HeaderUnit h)) is = (h, refl)
seen_some b o (Some (CopyUnit c)) is = absurd (cc)
seen_some b o (Some (PrepareUnit p)) is = absurd (cc)
seen_some b o (Some (ReplyUnit r)) is = absurd (cc)
seen_some b o (Some (BlockUnit c)) is = absurd (cc)
seen_some b o None is = absurd (cc)

-- what is left where a prepare was cut off
cut_take : (x : Cases.Seen) (d : Cases.Decision) (mend : Bool) → Cases.Take mend ≡ cut x d → d ≡ Cases.Take false
cut_take x (Cases.Take true) mend is = absurd (cc)
cut_take x (Cases.Take false) mend is = refl
cut_take x Cases.Behind mend is = absurd (cc)
cut_take x Cases.Lost mend is = absurd (cc)
cut_take x (Cases.Empty m) mend is = absurd (cc)

cut_behind : (x : Cases.Seen) (d : Cases.Decision) → Cases.Behind ≡ cut x d → d ≡ Cases.Behind
cut_behind x (Cases.Take true) is = absurd (cc)
cut_behind x (Cases.Take false) is = absurd (cc)
cut_behind x Cases.Behind is = refl
cut_behind x Cases.Lost is = absurd (cc)
cut_behind x (Cases.Empty m) is = absurd (cc)

cut_lost : (x : Cases.Seen) (d : Cases.Decision) → Cases.Lost ≡ cut x d → d ≡ Cases.Lost
cut_lost x (Cases.Take true) is = absurd (cc)
cut_lost x (Cases.Take false) is = absurd (cc)
cut_lost x Cases.Behind is = absurd (cc)
cut_lost x Cases.Lost is = refl
cut_lost x (Cases.Empty m) is = absurd (cc)

-- an empty slot whose header isn't mended shows one
cut_empty : (b o : ℕ) (x y : Option AnyUnit) (d : Cases.Decision)
    → Cases.Empty false ≡ cut (seen_header b o x) d → SaysOfSlot b o x y d → (h : Units.Header) × (x ≡ Some (HeaderUnit h))
cut_empty b o x y (Cases.Take true) is said = let none : is_nothing (seen_header b o x) ≡ false = cc in seen_some b o x none
cut_empty b o x y (Cases.Take false) is said = absurd (cc)
cut_empty b o x y Cases.Behind is said = absurd (cc)
cut_empty b o x y Cases.Lost is said = absurd (cc)
cut_empty b o x y (Cases.Empty m) is said = elim said.2 [
  | inl shown ↦ shown.1
  | inr mends ↦ let kept : m ≡ false = cc in let no : true ≡ false = sym mends.0 ∙ kept in absurd (cc)
]

module _ (layout : Layout) (sh : Shape) (image : Units.Units) (v : View) (scan : Scan) (top : ℕ) (is : IsScanOf layout sh image v scan top) where
  chain : Chain (clients sh) (v.checkpoint.content.op + 1) v.checkpoint.content.op_checksum 0 v.checkpoint.parts.sessions v.tail
  chain = is.found.tail.chain

  there : (slot : ℕ) → slot < layout.slots → IsSlot layout scan.start.cluster slot (entry scan slot)
  there slot below = is.tells.table.each slot (entry scan slot) (entry_there scan slot (omega (arith, below, is.tells.table.size)))

  shows : (slot : ℕ) → slot < layout.slots → ShowsSlot image slot (entry scan slot)
  shows slot below = is.tells.shows.each slot (entry scan slot) (entry_there scan slot (omega (arith, below, is.tells.table.size)))

  -- a prepare of the tail in this slot has this op
  op_there : (slot o : ℕ) (q : Message)
      → IsOpOf layout.slots scan.start.op slot o → In q v.tail → slot ≡ q.header.op % slots sh → q.header.op ≡ o
  op_there slot o q of at here = let range = chain_ops
      (clients sh) (v.checkpoint.content.op + 1) v.checkpoint.content.op_checksum 0 v.checkpoint.parts.sessions v.tail q chain at in
      one_op layout.slots scan.start.op slot q.header.op o (record {
        above = omega (arith, range.0, is.op);
        within = omega (arith, range.1, is.found.tail.room, is.op, is.slots_are);
        slot_is = ap (λ (n : ℕ). q.header.op % n) (sym is.slots_are) ∙ sym here;
      }) of

  -- ---- nothing later is shown

  -- an op above the wanted one would be past the ring
  no_far : (slot o op : ℕ)
      → IsOpOf layout.slots scan.start.op slot o → op ≤ v.checkpoint.content.op + slots sh → op % layout.slots ≡ slot → o < op → ⊥
  no_far slot o op of near own more = let same : op ≡ o = one_op layout.slots scan.start.op
      slot op o (record { above = omega (arith, of.above, more); within = omega (arith, near, is.op, is.slots_are); slot_is = own }) of in
      omega (arith, same, more)

  no_far_header : (slot o : ℕ) (h : Units.Header)
      → slot < layout.slots → IsOpOf layout.slots scan.start.op slot o → image (HeaderPlace slot) ≡ Some (HeaderUnit h) → o < h.op → ⊥
  no_far_header slot o h below of shown more = no_far slot o h.op of (is.found.not_behind.header slot h shown).1
      (header_slot layout scan.start.cluster slot (image (HeaderPlace slot))
      (entry scan slot).header h (shows slot below).header (there slot below).header shown (omega (arith, more))) more

  no_far_prepare : (slot o : ℕ) (p : Message) → slot < layout.slots
      → IsOpOf layout.slots scan.start.op slot o → image (PreparePlace slot) ≡ Some (PrepareUnit p) → o < p.header.op → ⊥
  no_far_prepare slot o p below of shown more = no_far slot o p.header.op of (is.found.not_behind.prepare slot p shown).1
      (prepare_slot layout scan.start.cluster
      slot (image (PreparePlace slot)) (entry scan slot).prepare p (shows slot below).prepare (there slot below).prepare shown) more

  -- no header of the boot is above the head
  no_header : (slot o : ℕ) (h : Units.Header) → head v < o → image (HeaderPlace slot) ≡ Some (HeaderUnit h) → IsNow scan.start.boot o h → ⊥
  no_header slot o h high shown now = let low = is.found.not_lost.header slot h shown (now.1 ∙ sym is.boot) in
      omega (arith, low, now.0, high)

  -- what the table says of the slot
  says : (slot o : ℕ) → o % layout.slots ≡ slot
      → SaysOfSlot scan.start.boot o (image (HeaderPlace slot)) (image (PreparePlace slot)) (decision layout.slots scan.start.boot image o)
  says slot o here = subst (λ (n : ℕ). SaysOfSlot scan.start.boot o (image (HeaderPlace n))
      (image (PreparePlace n)) (decision layout.slots scan.start.boot image o)) here (decision_law layout.slots scan.start.boot o image)

  -- ---- a slot up to the head

  -- its prepare is the tail's, and unless its header is to be mended that is shown as well
  abbrev IsOwn : ℕ → ℕ → Decision → Type 0
  IsOwn slot o d =
      (q : Message) × In q v.tail × (q.header.op ≡ o) × (image (PreparePlace slot) ≡ Some (PrepareUnit q)) × Cases.IsTake (decision_of d)
      × (is_mended (decision_of d) ≡ false
      → (h : Units.Header) × (image (HeaderPlace slot) ≡ Some (HeaderUnit h)) × (h.checksum ≡ q.header.checksum))

  own_named : (slot o : ℕ) (q : Message) (d : Cases.Decision)
      → image (PreparePlace slot) ≡ Some (PrepareUnit q) → d ≡ named (image (HeaderPlace slot)) (image (PreparePlace slot)) → Cases.IsTake d
      × (is_mended d ≡ false → (h : Units.Header) × (image (HeaderPlace slot) ≡ Some (HeaderUnit h)) × (h.checksum ≡ q.header.checksum))
  own_named slot o q d shown same = let take : d ≡ Cases.Take (not (shows_header q.header.checksum (image (HeaderPlace slot)))) =
      same ∙ ap (named (image (HeaderPlace slot))) shown in (
        subst Cases.IsTake (sym take) tt,
        λ quiet. shows_some q.header.checksum (image (HeaderPlace slot))
            (not-false (shows_header q.header.checksum (image (HeaderPlace slot))) (sym (ap is_mended take) ∙ quiet)),
      )

  own_taken : (slot o : ℕ) (q : Message) (d : Cases.Decision) → image (PreparePlace slot) ≡ Some (PrepareUnit q)
      → Cases.IsTake d → SaysOfSlot scan.start.boot o (image (HeaderPlace slot)) (image (PreparePlace slot)) d
      → is_mended d ≡ false → (h : Units.Header) × (image (HeaderPlace slot) ≡ Some (HeaderUnit h)) × (h.checksum ≡ q.header.checksum)
  own_taken slot o q (Cases.Take mend) shown take (p, at, now, either) quiet = elim either [
    | inl both ↦ let same : Some (PrepareUnit p) ≡ Some (PrepareUnit q) = sym at ∙ shown in let one : p ≡ q = cc in
        (both.1.0, both.1.1, both.1.3 ∙ ap (λ (m : Message). m.header.checksum) one)
    | inr mends ↦ let no : true ≡ false = sym mends.0 ∙ quiet in absurd (cc)
  ]
  own_taken slot o q Cases.Behind shown take said quiet = absurd take
  own_taken slot o q Cases.Lost shown take said quiet = absurd take
  own_taken slot o q (Cases.Empty mend) shown take said quiet = absurd take

  taken : (slot o : ℕ) (d : Decision)
      → IsOpOf layout.slots scan.start.op slot o → decision_of d ≡ planned layout.slots scan.start top image o → o ≤ head v → IsOwn slot o d
  taken slot o d of decided low = let own = chain_at (clients sh) (v.checkpoint.content.op + 1)
      v.checkpoint.content.op_checksum 0 v.checkpoint.parts.sessions v.tail o chain (omega (arith, of.above, is.op)) (omega (arith, low)) in
      let takes = is.found.tail.takes own.0 own.1 in let n : slots sh ≡ layout.slots = is.slots_are in
      let here : own.0.header.op % slots sh ≡ slot = ap (λ (k : ℕ). k % slots sh) own.2 ∙ ap (λ (k : ℕ). o % k) n ∙ of.slot_is in
      let shown : image (PreparePlace slot) ≡ Some (PrepareUnit own.0) = rw here at takes.shown in elim (cases_lt scan.start.head o) [
        | inl above ↦ let same : decision_of d ≡ decision layout.slots scan.start.boot image o =
            decided ∙ planned_middle layout.slots top o scan.start image above (omega (arith, low, is.head_is)) in
            let take : Cases.IsTake (decision (slots sh) v.checkpoint.content.boot image own.0.header.op) =
            takes.take (omega (arith, is.pin, own.2, above)) in let plain : Cases.IsTake (decision layout.slots scan.start.boot image o) =
            rw n at (rw is.boot at (rw own.2 at take)) in
            let is_take : Cases.IsTake (decision_of d) = subst Cases.IsTake (sym same) plain in
            let said = subst (SaysOfSlot scan.start.boot o (image (HeaderPlace slot)) (image (PreparePlace slot)))
            (sym same) (says slot o of.slot_is) in
            (own.0, own.1, own.2, shown, is_take, own_taken slot o own.0 (decision_of d) shown is_take said)
        | inr below ↦ let same : decision_of d ≡ named (image (HeaderPlace slot)) (image (PreparePlace slot)) =
            decided ∙ planned_low layout.slots top o scan.start image below
            ∙ ap (λ (k : ℕ). named (image (HeaderPlace k)) (image (PreparePlace k))) of.slot_is in
            let both = own_named slot o own.0 (decision_of d) shown same in (own.0, own.1, own.2, shown, both.0, both.1)
      ]

  -- ---- a slot above the head

  abbrev IsCutOff : ℕ → ℕ → Decision → Type 0
  IsCutOff slot o d =
      decision_of d ≡ cut (seen_header scan.start.boot o (image (HeaderPlace slot))) (decision layout.slots scan.start.boot image o)

  cut_here : (slot o : ℕ) (d : Decision) → IsOpOf layout.slots scan.start.op slot o
      → decision_of d ≡ planned layout.slots scan.start top image o → head v < o → IsCutOff slot o d
  cut_here slot o d of decided high = decided ∙ planned_high
      layout.slots top o scan.start image (omega (arith, is.found.tail.reaches, is.pin, high)) (omega (arith, high, is.head_is))
      ∙ ap (λ (k : ℕ). cut (seen_header scan.start.boot o (image (HeaderPlace k))) (decision layout.slots scan.start.boot image o)) of.slot_is

  -- nothing is taken there: its header would be of the boot
  not_taken : (slot o : ℕ) (mend : Bool) → IsOpOf layout.slots scan.start.op slot o → head v < o
      → Cases.Take mend ≡ cut (seen_header scan.start.boot o (image (HeaderPlace slot))) (decision layout.slots scan.start.boot image o) → ⊥
  not_taken slot o mend of high same = let take : decision layout.slots scan.start.boot image o ≡ Cases.Take false =
      cut_take (seen_header scan.start.boot o (image (HeaderPlace slot))) (decision layout.slots scan.start.boot image o) mend same in
      let said = subst (SaysOfSlot scan.start.boot o (image (HeaderPlace slot)) (image (PreparePlace slot))) take (says slot o of.slot_is) in
      elim said.3 [
        | inl both ↦ no_header slot o both.1.0 high both.1.1 both.1.2
        | inr mends ↦ let no = mends.0 in cc
      ]

  cut_from : (slot o cluster : ℕ) (d : Decision) → slot < layout.slots → IsOpOf layout.slots scan.start.op slot o
      → head v < o → IsCutOff slot o d → IsFromSlot sh image v slot (header_of (header_by cluster slot (entry scan slot) (decision_of d)))
  cut_from slot o cluster (Take mend) below of high same = absurd (not_taken slot o mend of high same)
  cut_from slot o cluster (Empty false) below of high same =
      shown_from sh image v cluster slot (entry scan slot).header (shows slot below).header
  cut_from slot o cluster (Empty true) below of high same = inr (inr (record { op = refl; checkpoint = refl; boot = refl }))
  cut_from slot o cluster Behind below of high same = inr (inr (record { op = refl; checkpoint = refl; boot = refl }))
  cut_from slot o cluster Lost below of high same = inr (inr (record { op = refl; checkpoint = refl; boot = refl }))

  -- ---- where the header comes from

  take_header : (slot cluster : ℕ) (q : Message) (d : Decision) → slot < layout.slots → image (PreparePlace slot) ≡ Some (PrepareUnit q)
      → Cases.IsTake (decision_of d) → header_of (header_by cluster slot (entry scan slot) (decision_of d)) ≡ q.header
  take_header slot cluster q (Take mend) below shown take =
      prepare_seen cluster slot (image (PreparePlace slot)) (entry scan slot).prepare q (shows slot below).prepare shown
  take_header slot cluster q Behind below shown take = absurd take
  take_header slot cluster q Lost below shown take = absurd take
  take_header slot cluster q (Empty mend) below shown take = absurd take

  slot_header : (slot o cluster : ℕ) (d : Decision) → slot < layout.slots → IsOpOf layout.slots scan.start.op slot o → decision_of d ≡ planned layout.slots scan.start top image o → IsSlotHeader sh image v slot (header_of (header_by cluster slot (entry scan slot) (decision_of d)))
  slot_header slot o cluster d below of decided = elim (cases_lt (head v) o) [
    | inl high ↦ record {
      from = cut_from slot o cluster d below of high (cut_here slot o d of decided high);
      tail = λ q at here. let range = chain_ops
          (clients sh) (v.checkpoint.content.op + 1) v.checkpoint.content.op_checksum 0 v.checkpoint.parts.sessions v.tail q chain at in
          absurd (omega (arith, op_there slot o q of at here, range.1, high));
    }
    | inr low ↦ let own = taken slot o d of decided low in
        let is_own : header_of (header_by cluster slot (entry scan slot) (decision_of d)) ≡ own.0.header =
        take_header slot cluster own.0 d below own.3 own.4 in record {
          from = inr (inl (own.0, own.1, sym is_own, sym (ap (λ (h : Units.Header). h.op % slots sh) is_own ∙ ap (λ (k : ℕ). k % slots sh) own.2 ∙ ap (λ (k : ℕ). o % k) is.slots_are ∙ of.slot_is)));
          tail = λ q at here. let one : q ≡ own.0 = in_one (clients sh) (v.checkpoint.content.op + 1) v.checkpoint.content.op_checksum
              0 v.checkpoint.parts.sessions v.tail q own.0 chain at own.1 (op_there slot o q of at here ∙ sym own.2) in
              ap (λ (m : Message). m.header) one ∙ sym is_own;
        }
  ]

  -- the whole table
  pub plan_tells : (cluster : ℕ) (table : List Header)
      → length table ≡ layout.slots → ArePlanned cluster scan top layout.slots table → IsTable sh image v (headers_in table)
  plan_tells cluster table count planned slot = elim (cases_lt slot layout.slots) [
    | inl below ↦ let plan = planned slot below in let of = op_in_is layout scan.start.op slot below in
        let decided = plan.1 layout image (op_above_in_slot layout.slots scan.start.op slot) is.tells of in
        subst (IsSlotHeader sh image v slot) (sym (ap header_or_none plan.2))
        (slot_header slot (op_above_in_slot layout.slots scan.start.op slot) cluster plan.0 below of decided)
    | inr past ↦
        let none : headers_in table slot ≡ header_or_none None = ap header_or_none (slice_get_past table slot (omega (arith, past, count))) in
        subst (IsSlotHeader sh image v slot) (sym none) (record {
          from = inr (inr (record { op = refl; checkpoint = refl; boot = refl }));
          tail = λ q at here. absurd (omega (arith, here, past, is.slots_are, mod-lt q.header.op sh.some));
        })
  ]

  -- ---- slots that aren't listed

  other_cut : (slot o cluster : ℕ) (d : Decision)
      → slot < layout.slots → IsOpOf layout.slots scan.start.op slot o → head v < o → is_mended (decision_of d) ≡ false → IsCutOff slot o d
      → image (HeaderPlace slot) ≡ Some (HeaderUnit (header_of (header_by cluster slot (entry scan slot) (decision_of d))))
  other_cut slot o cluster (Take mend) below of high unlisted same = absurd (not_taken slot o mend of high same)
  other_cut slot o cluster (Empty false) below of high unlisted same = let shown = cut_empty scan.start.boot o (image (HeaderPlace slot))
      (image (PreparePlace slot)) (decision layout.slots scan.start.boot image o) same (says slot o of.slot_is) in
      shown.1 ∙ ap (λ (k : Units.Header). Some (HeaderUnit k))
      (sym (header_seen cluster slot (image (HeaderPlace slot)) (entry scan slot).header shown.0 (shows slot below).header shown.1))
  other_cut slot o cluster (Empty true) below of high unlisted same = absurd (cc)
  other_cut slot o cluster Behind below of high unlisted same =
      let behind = cut_behind (seen_header scan.start.boot o (image (HeaderPlace slot))) (decision layout.slots scan.start.boot image o) same in
      let said = subst (SaysOfSlot scan.start.boot o (image (HeaderPlace slot)) (image (PreparePlace slot))) behind (says slot o of.slot_is) in
      elim said [
        | inl header ↦ absurd (no_far_header slot o header.0 below of header.1 header.2)
        | inr prepare ↦ absurd (no_far_prepare slot o prepare.0 below of prepare.1 prepare.2)
      ]
  other_cut slot o cluster Lost below of high unlisted same =
      let lost = cut_lost (seen_header scan.start.boot o (image (HeaderPlace slot))) (decision layout.slots scan.start.boot image o) same in
      let said = subst (SaysOfSlot scan.start.boot o (image (HeaderPlace slot)) (image (PreparePlace slot))) lost (says slot o of.slot_is) in
      absurd (no_header slot o said.0 high said.1 said.2)

  other_own : (slot o cluster : ℕ) (d : Decision) → slot < layout.slots → AreDistinctUnits image → is_mended (decision_of d) ≡ false
      → IsOwn slot o d → image (HeaderPlace slot) ≡ Some (HeaderUnit (header_of (header_by cluster slot (entry scan slot) (decision_of d))))
  other_own slot o cluster d below distinct unlisted own = let shown = own.5 unlisted in let same : shown.0 ≡ own.0.header =
      distinct (HeaderPlace slot) (PreparePlace slot) (HeaderUnit shown.0) (PrepareUnit own.0) shown.1 own.3 shown.2 in
      shown.1 ∙ ap (λ (k : Units.Header). Some (HeaderUnit k)) (same ∙ sym (take_header slot cluster own.0 d below own.3 own.4))

  pub plan_whole : (cluster : ℕ) (table : List Header) → ArePlanned cluster scan top layout.slots table
      → AreDistinctUnits image → OthersAreShown layout scan.start top image (headers_in table)
  plan_whole cluster table planned distinct slot below unlisted = let plan = planned slot below in
      let o = op_above_in_slot layout.slots scan.start.op slot in let of = op_in_is layout scan.start.op slot below in
      let decided = plan.1 layout image o is.tells of in
      let quiet : is_mended (decision_of plan.0) ≡ false = ap is_mended decided ∙ unlisted in
      let shown : image (HeaderPlace slot) ≡ Some (HeaderUnit (header_of (header_by cluster slot (entry scan slot) (decision_of plan.0)))) =
      elim (cases_lt (head v) o) [
        | inl high ↦ other_cut slot o cluster plan.0 below of high quiet (cut_here slot o plan.0 of decided high)
        | inr low ↦ other_own slot o cluster plan.0 below distinct quiet (taken slot o plan.0 of decided low)
      ] in shown ∙ ap (λ (k : Units.Header). Some (HeaderUnit k)) (sym (ap header_or_none plan.2))
