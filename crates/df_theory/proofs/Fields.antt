-- Damage never makes a superblock or a trailer that fails its tests.
use Rattle.std.proofs.Common.{◌≡◌, inl, inr, ℕ, ◌-◌, List, [], ◌∷◌, ◌++◌, Some, refl, sym, ◌∙◌, ap, arith}
use Rattle.df_theory.{specs.{Units.{Block, BlockPlace, BlockUnit, Content, CopyPlace, CopyUnit, Units}, Trailer.{InChain, Links}, Holds.{Sound}, Opens.{Arrives}, DamageLaws.{FieldsHoldLaw}}, proofs.{Settled.{settled_content}, Once.{was_sound, was_chain}}}

-- blocks that are read down from a reference are the chain's, as far as they are read
pub front_of : (room : ℕ) (c : Content) (shown : Units) (cs bs : List (ℕ × Block)) (address checksum a k : ℕ)
    → Links room c cs address checksum → Arrives shown bs address checksum a k
    → ((e : ℕ) (b d : Block) → InChain e b cs → shown (BlockPlace e) ≡ Some (BlockUnit d) → b.checksum ≡ d.checksum → b ≡ d)
    → (rest : List (ℕ × Block)) × (cs ≡ bs ++ rest) × Links room c rest a k
front_of room c shown cs [] address checksum a k links arrives same = (cs, refl, rw (sym arrives.0) at (rw (sym arrives.1) at links))
front_of room c shown [] (b ∷ bs) address checksum a k links arrives same = absurd (omega (arith, links, arrives.0))
front_of room c shown (d ∷ cs) (b ∷ bs) address checksum a k links arrives same = let place : d.0 ≡ b.0 = links.1 ∙ sym arrives.1 in
    let block : d.1 ≡ b.1 =
    same d.0 d.1 b.1 (inl (refl, refl)) (ap (λ (e : ℕ). shown (BlockPlace e)) links.1 ∙ arrives.3) (links.2 ∙ sym arrives.2) in
    let rest = front_of room c shown cs bs b.1.before b.1.before_checksum a k (rw block at links.7) arrives.5 (λ e x y at is.
    same e x y (inr at) is) in (rest.0, λ i. (place i, block i) ∷ rest.1 i, rest.2)

pub fields_hold_law : FieldsHoldLaw
fields_hold_law sh images v grows empty distinct shown of c agreed =
    let w = settled_content sh images v grows empty agreed.second c (λ zero_is.
    omega (arith, agreed.apart)) (of (CopyPlace agreed.second) (CopyUnit c) agreed.at_second) in
    let sound : Sound sh w.0 = was_sound sh images v grows w.0 w.1 in (
      w.0,
      w.1,
      sym w.2,
      sound.checkpoint,
      λ bs a k arrives. front_of (sh.layout.block_size - 256) c shown w.0.checkpoint.chain bs c.trailer c.trailer_checksum a k
          (rw (sym w.2) at sound.checkpoint.trailer.links) arrives (λ e b d at is checksum. distinct (BlockPlace e) (BlockPlace e)
          (BlockUnit b) (BlockUnit d) (was_chain sh images v grows w.0 w.1 e b at) (of (BlockPlace e) (BlockUnit d) is) checksum),
    )
