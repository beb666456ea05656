-- An open of settled units never finds a bad field.
use Rattle.std.proofs.Common.{◌≡◌, inl, inr, ℕ, suc, ◌+◌, ◌-◌, ◌%◌, ◌<◌, ◌≤◌, List, [], ◌∷◌, ◌++◌, length, Some, refl, sym, ◌∙◌, ap, arith, length-append, append_assoc}
use Rattle.df_theory.{specs.{Units.{Block, BlockPlace, BlockUnit, Content, CopyPlace, PreparePlace, ReplyPlace, Units}, Shape.{Shape}, Copies.{IsChosen}, Trailer.{InChain, IsReference, Links}, View.{Checkpoint, IsSoundCheckpoint, PassesTests, View}, Found.{slot_behind}, Opens.{AreLinks, Arrives, BadField, BootSpent, Damaged, Found, IsLink, IsShown, NoQuorum, ReadsTo, Refused}, DamageLaws.{NoBadFieldLaw}, Grown.{Grows}, HistoryLaws.{AreDistinct, ShowsSettled}, Past.{FromEmpty}}, proofs.{Fields.{fields_hold_law}, Once.{was_chain}, Layers.{Answers, answers_of}, OneAnswer.{in_behind}}}

pub arrives_more : (image : Units) (bs : List (ℕ × Block)) (d : ℕ × Block) (address checksum a k : ℕ) → Arrives image bs address checksum a k → 0 < a → d.0 ≡ a → d.1.checksum ≡ k → d.1.kind ≡ 0 → image (BlockPlace a) ≡ Some (BlockUnit d.1) → Arrives image (bs ++ d ∷ []) address checksum d.1.before d.1.before_checksum
arrives_more image [] d address checksum a k arrives above place sum kind shown =
    (omega (arith, arrives.0), place ∙ arrives.0, sum ∙ arrives.1, ap (λ (e : ℕ). image (BlockPlace e)) (sym arrives.0) ∙ shown, kind, (refl, refl))
arrives_more image (b ∷ bs) d address checksum a k arrives above place sum kind shown = (arrives.0, arrives.1, arrives.2, arrives.3, arrives.4, arrives_more image bs d b.1.before b.1.before_checksum a k arrives.5 above place sum kind shown)

pub links_more : (sh : Shape) (c : Content) (n i : ℕ) (bs : List (ℕ × Block)) (d : ℕ × Block)
    → AreLinks sh c n bs → n ≡ length bs + (i + 1) → IsLink sh c i d.1 → AreLinks sh c n (bs ++ d ∷ [])
links_more sh c n i [] d are count link = (i, omega arith, link, tt)
links_more sh c n i (b ∷ bs) d are count link = (are.0, are.1, are.2, links_more sh c are.0 i bs d are.3 (omega (arith, are.1)) link)

-- a block of a chain that passes its tests is a link
pub link_of : (sh : Shape) (c : Content) (d : ℕ × Block) (ds : List (ℕ × Block)) (a k : ℕ) → Links (sh.layout.block_size - 256)
    c (d ∷ ds) a k → ((e : ℕ) (x : Block) → InChain e x ds → e ≤ sh.layout.blocks) → IsLink sh c (length ds) d.1
link_of sh c d [] a k links inside = record { sequence = links.3; place = links.4; size = links.5; before = λ above. absurd (omega arith) }
link_of sh c d (e ∷ ds) a k links inside = record { sequence = links.3; place = links.4; size = links.5; before = λ above. (links.7.0, omega (arith, inside e.0 e.1 (inl (refl, refl)), links.7.1)) }

module _ (sh : Shape) (shown : Units) (w : Checkpoint) (sound : IsSoundCheckpoint sh w)
    (wanted : (a k : ℕ) → ReadsTo sh shown w.content a k → IsShown shown a k) (same : (e : ℕ) (x y : Block)
    → InChain e x w.chain → shown (BlockPlace e) ≡ Some (BlockUnit y) → x.checksum ≡ y.checksum → x ≡ y) where
  -- from what was read on all is shown
  rest_shown : (bs ds : List (ℕ × Block)) (a k : ℕ) → w.chain ≡ bs ++ ds → Arrives shown bs w.content.trailer w.content.trailer_checksum a k
      → AreLinks sh w.content (length w.chain) bs → Links (sh.layout.block_size - 256) w.content ds a k
      → (e : ℕ) (x : Block) → InChain e x ds → shown (BlockPlace e) ≡ Some (BlockUnit x)
  rest_shown bs [] a k split arrives are links e x at = absurd at
  rest_shown bs (d ∷ ds) a k split arrives are links e x at =
      let size : length w.chain ≡ length bs + suc (length ds) = ap length split ∙ length-append bs (d ∷ ds) in let there = wanted a
      k (record { count = length w.chain; read = bs; counts = sound.trailer.count; arrives = arrives; links = are; more = omega arith }) in
      let in_chain : InChain d.0 d.1 w.chain = rw (sym split) at (in_behind d.0 d.1 bs (d ∷ ds) (inl (refl, refl))) in
      let one : d.1 ≡ there.0 = same d.0 d.1 there.0 in_chain (ap (λ (n : ℕ). shown (BlockPlace n)) links.1 ∙ there.1) (links.2 ∙ sym there.2) in
      let here : shown (BlockPlace a) ≡ Some (BlockUnit d.1) = there.1 ∙ ap (λ (z : Block). Some (BlockUnit z)) (sym one) in
      let link : IsLink sh w.content (length ds) d.1 = link_of sh w.content d ds a k links (λ f z in_rest.
      sound.trailer.inside f z (rw (sym split) at (in_behind f z bs (d ∷ ds) (inr in_rest)))) in elim at [
        | inl first ↦ ap (λ (n : ℕ). shown (BlockPlace n)) (first.0 ∙ links.1) ∙ here ∙ ap (λ (z : Block). Some (BlockUnit z)) (sym first.1)
        | inr later ↦ rest_shown (bs ++ d ∷ []) ds d.1.before d.1.before_checksum (split ∙ sym (append_assoc bs (d ∷ []) ds))
            (arrives_more shown bs d w.content.trailer w.content.trailer_checksum a k arrives links.0 links.1 links.2 links.6 here)
            (links_more sh w.content (length w.chain) (length ds) bs d are (omega arith) link) links.7 e x later
      ]

  pub all_shown : (e : ℕ) (x : Block) → InChain e x w.chain → shown (BlockPlace e) ≡ Some (BlockUnit x)
  all_shown = rest_shown [] w.chain w.content.trailer w.content.trailer_checksum refl (refl, refl) tt sound.trailer.links

no_bad : (sh : Shape) (images : List Units) (v : View) (grows : Grows sh images v) → FromEmpty sh images v grows
    → AreDistinct images → (shown : Units) → ShowsSettled images shown → Answers sh shown (Refused BadField) → ⊥
no_bad sh images v grows empty distinct shown of (inl p) = let both : Refused BadField ≡ Refused NoQuorum = p.1 in cc
no_bad sh images v grows empty distinct shown of (inr (c, chosen, inl p)) =
    let w = fields_hold_law sh images v grows empty distinct shown of c chosen.agreed in
    p.0 (rw w.2 at w.3.tests) (rw w.2 at w.3.trailer.reference)
no_bad sh images v grows empty distinct shown of (inr (c, chosen, inr (tests, reference, inl p))) =
    let both : Refused BadField ≡ Refused (Damaged (BlockPlace p.0)) = p.4 in cc
no_bad sh images v grows empty distinct shown of (inr (c, chosen, inr (tests, reference, inr (inl p)))) =
    let w = fields_hold_law sh images v grows empty distinct shown of c chosen.agreed in p.1 w.0.checkpoint w.2 (record {
      chosen = rw (sym w.2) at chosen;
      sound = w.3;
      shown = all_shown sh shown w.0.checkpoint w.3 (λ a k reads. p.0 a k (rw w.2 at reads))
          (λ e x y at is checksum. distinct (BlockPlace e) (BlockPlace e)
          (BlockUnit x) (BlockUnit y) (was_chain sh images v grows w.0 w.1 e x at) (of (BlockPlace e) (BlockUnit y) is) checksum);
    })
no_bad sh images v grows empty distinct shown of (inr (c, chosen, inr (tests, reference, inr (inr (b, content, readable, inl p))))) =
    let both : Refused BadField ≡ Refused (Damaged (CopyPlace p.0)) = p.3 in cc
no_bad sh images
    v grows empty distinct shown of (inr (c, chosen, inr (tests, reference, inr (inr (b, content, readable, inr (not_behind, inl p)))))) =
    let both : Refused BadField ≡ Refused (Damaged (PreparePlace (p.0 % sh.layout.slots))) = p.2 in cc
no_bad sh images v grows
    empty distinct shown of (inr (c, chosen, inr (tests, reference, inr (inr (b, content, readable, inr (not_behind, inr (inl p))))))) =
    let both : Refused BadField ≡ Refused (Damaged (PreparePlace ((b.content.op + length p.0 + 1) % sh.layout.slots))) = p.2 in cc
no_bad sh images v grows empty distinct shown
    of (inr (c, chosen, inr (tests, reference, inr (inr (b, content, readable, inr (not_behind, inr (inr (tail, is_tail, inl p)))))))) =
    let both : Refused BadField ≡ Refused (Damaged (PreparePlace (slot_behind sh b tail p.1.0))) = p.1.2 in cc
no_bad sh images v grows empty distinct shown of (inr (c, chosen, inr (tests, reference, inr (inr (b, content, readable, inr (not_behind, inr (inr (tail, is_tail, inr (not_lost, (n, counted, inl p)))))))))) =
    let both : Refused BadField ≡ Refused (Damaged (ReplyPlace p.0)) = p.2 in cc
no_bad sh images v grows empty distinct shown of (inr (c, chosen, inr (tests, reference, inr (inr (b, content, readable, inr (not_behind, inr (inr (tail, is_tail, inr (not_lost, (n, counted, inr p)))))))))) =
    elim p.5 [ inl q ↦ (let both : Refused BadField ≡ Found p.0 = q.1 in cc) | inr q ↦ (let both : Refused BadField ≡ Refused BootSpent = q.1 in cc) ]

pub no_bad_field_law : NoBadFieldLaw
no_bad_field_law sh images v grows empty distinct shown of opens =
    no_bad sh images v grows empty distinct shown of (answers_of sh shown (Refused BadField) opens)
