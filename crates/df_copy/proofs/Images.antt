-- What an image shows after the steps of a copy, place by place, where it showed nothing before.
use Rattle.std.{proofs.Common.{◌≡◌, ◌⊎◌, inl, inr, ℕ, ◌+◌, ◌<◌, ◌≤◌, false, List, [], ◌∷◌, ◌++◌, length, Option, Some, None, refl, sym, ◌∙◌, ap, arith}, specs.Prelude.{slice_get}}
use Rattle.df_format.specs.{declared.superblock.SuperFields.{SuperFields}, Copies.{content_with}}
use Rattle.df_theory.specs.{MakingLaws.{AllReserved, PutsReserved, all_puts}, MendLaws.{Reaches}, CopyPuts.{update_steps}, Runs.{Step, Syncs}, UnitLog.{same_place}, Units.{AnyUnit, BlockPlace, CopyPlace, CopyUnit, Header, HeaderPlace, HeaderUnit, IsReserved, Place, PreparePlace, ReplyPlace, Units, or_else}}
use Rattle.{df_units.specs.{Meaning.{content_of}, Puts.{put_copies}}, df_opening.proofs.Laws.{unit_after, after_join}}
use Rattle.df_copy.proofs.Afters.{IsReservedUnit, after_above, after_below, after_other, after_there, placed, ring_other, ring_reached, update_other, update_there}

-- ---- the ring alone

-- reserved headers are all that is put: a unit that wasn't there before is one
put_or_before : (put : Units) (place : Place) (o : Option AnyUnit) (x : AnyUnit)
    → PutsReserved put → or_else (put place) o ≡ Some x → IsReservedUnit (Some x) ⊎ (o ≡ Some x)
put_or_before put place o x are is = by (put place) refl is
  where
    by : (q : Option AnyUnit) → put place ≡ q → or_else q o ≡ Some x → IsReservedUnit (Some x) ⊎ (o ≡ Some x)
    by None at is = inr is
    by (Some y) at is = let there = are place y at in let same : y ≡ x = cc in
        inl (there.1, ap (λ (z : AnyUnit). Some z) (sym same ∙ there.3), there.4)

ring_or_before : (puts : List Units) (place : Place) (o : Option AnyUnit) (x : AnyUnit)
    → AllReserved puts → unit_after (all_puts puts) place o ≡ Some x → IsReservedUnit (Some x) ⊎ (o ≡ Some x)
ring_or_before [] place o x are is = inr is
ring_or_before (put ∷ puts) place o x are is = elim (ring_or_before puts place (or_else (put place) o) x are.1 is) [
  | inl reserved ↦ inl reserved
  | inr before ↦ put_or_before put place o x are.0 before
]

-- ---- all steps

module _ (puts : List Units) (reserved : AllReserved puts) (replies blocks trailer : List AnyUnit) (f : SuperFields) where
  abbrev update : List Step
  update = Syncs ∷ update_steps (put_copies f)

  abbrev reply_row : List Step
  reply_row = placed ReplyPlace 0 replies

  abbrev block_row : List Step
  block_row = placed BlockPlace 1 blocks

  abbrev trailer_row : List Step
  trailer_row = placed BlockPlace (length blocks + 1) trailer

  -- the ring, replies, blocks, the trailer, and the superblock after a sync
  abbrev pub row_steps : List Step
  row_steps = ((all_puts puts ++ (reply_row ++ block_row)) ++ trailer_row) ++ update

  abbrev pub image_behind : Units
  image_behind place = unit_after row_steps place None

  abbrev ring : Place → Option AnyUnit
  ring place = unit_after (all_puts puts) place None

  in_order : (place : Place) → image_behind place
      ≡ unit_after update place (unit_after trailer_row place (unit_after block_row place (unit_after reply_row place (ring place))))
  in_order place = after_join ((all_puts puts ++ (reply_row ++ block_row)) ++ trailer_row) update place None
      ∙ ap (unit_after update place) (after_join (all_puts puts ++ (reply_row ++ block_row)) trailer_row place None
      ∙ ap (unit_after trailer_row place)
      (after_join (all_puts puts) (reply_row ++ block_row) place None ∙ after_join reply_row block_row place (ring place)))

  -- ---- what each of them leaves

  past_update : (place : Place) (o : Option AnyUnit) → ((n : ℕ) → same_place (CopyPlace n) place ≡ false) → unit_after update place o ≡ o
  past_update place o apart = update_other f place o apart

  past_trailer : (place : Place) (o : Option AnyUnit) → ((a : ℕ) → same_place (BlockPlace a) place ≡ false) → unit_after trailer_row place o ≡ o
  past_trailer place o apart = after_other BlockPlace place apart (length blocks + 1) trailer o

  past_blocks : (place : Place) (o : Option AnyUnit) → ((a : ℕ) → same_place (BlockPlace a) place ≡ false) → unit_after block_row place o ≡ o
  past_blocks place o apart = after_other BlockPlace place apart 1 blocks o

  -- what is neither a copy of the superblock nor a block is as the ring and the replies left it
  past_units : (place : Place) → ((n : ℕ) → same_place (CopyPlace n) place ≡ false)
      → ((a : ℕ) → same_place (BlockPlace a) place ≡ false) → image_behind place ≡ unit_after reply_row place (ring place)
  past_units place copies others = in_order place
      ∙ past_update place (unit_after trailer_row place (unit_after block_row place (unit_after reply_row place (ring place)))) copies
      ∙ past_trailer place (unit_after block_row place (unit_after reply_row place (ring place))) others
      ∙ past_blocks place (unit_after reply_row place (ring place)) others

  past_replies : (place : Place) (o : Option AnyUnit) → ((k : ℕ) → same_place (ReplyPlace k) place ≡ false) → unit_after reply_row place o ≡ o
  past_replies place o apart = after_other ReplyPlace place apart 0 replies o

  past_ring : (place : Place) → ((s : ℕ) → place ≡ HeaderPlace s → ⊥) → ring place ≡ None
  past_ring place other = ring_other puts place None reserved other

  -- ---- each place

  pub shows_copy : (n : ℕ) → n < 4 → image_behind (CopyPlace n) ≡ Some (CopyUnit (content_of (content_with f)))
  shows_copy n inside = in_order (CopyPlace n) ∙ update_there f n (unit_after
      trailer_row (CopyPlace n) (unit_after block_row (CopyPlace n) (unit_after reply_row (CopyPlace n) (ring (CopyPlace n))))) inside

  header_is_ring : (s : ℕ) → image_behind (HeaderPlace s) ≡ ring (HeaderPlace s)
  header_is_ring s = let place = HeaderPlace s in past_units place (λ n. refl) (λ a. refl) ∙ past_replies place (ring place) (λ k. refl)

  pub shows_reserved : (s : ℕ) (h : Header) → image_behind (HeaderPlace s) ≡ Some (HeaderUnit h) → IsReserved h
  shows_reserved s h is = elim (ring_or_before puts (HeaderPlace s) None (HeaderUnit h) reserved (sym (header_is_ring s) ∙ is)) [
    | inl there ↦ same there
    | inr none ↦ absurd (cc)
  ]
    where
      same : IsReservedUnit (Some (HeaderUnit h)) → IsReserved h
      same there = let it : h ≡ there.0 = (let both : Some (HeaderUnit h) ≡ Some (HeaderUnit there.0) = there.1 in cc) in record { op = ap (λ (g : Header). g.op) it ∙ there.2.op; checkpoint = ap (λ (g : Header). g.checkpoint) it ∙ there.2.checkpoint; boot = ap (λ (g : Header). g.boot) it ∙ there.2.boot }

  pub shows_slot : (s : ℕ) → Reaches puts (HeaderPlace s) → (h : Header) × (image_behind (HeaderPlace s) ≡ Some (HeaderUnit h))
  shows_slot s reaches = let there = ring_reached puts s None reserved reaches in (there.0, header_is_ring s ∙ there.1)

  pub shows_no_prepare : (s : ℕ) → image_behind (PreparePlace s) ≡ None
  shows_no_prepare s = let place = PreparePlace s in past_units place (λ n. refl) (λ a. refl) ∙ past_replies place (ring place) (λ k. refl)
      ∙ past_ring place (λ t same. cc)

  reply_is_row : (k : ℕ) → image_behind (ReplyPlace k) ≡ unit_after reply_row (ReplyPlace k) None
  reply_is_row k = let place = ReplyPlace k in past_units place (λ n. refl) (λ a. refl)
      ∙ ap (unit_after reply_row place) (past_ring place (λ t same. cc))

  pub shows_reply : (k : ℕ) (x : AnyUnit) → slice_get replies k ≡ Some x → image_behind (ReplyPlace k) ≡ Some x
  shows_reply k x at = reply_is_row k ∙ after_there ReplyPlace (λ a b. refl) 0 k k replies x None at (omega arith)

  pub shows_no_reply : (k : ℕ) → length replies ≤ k → image_behind (ReplyPlace k) ≡ None
  shows_no_reply k past = reply_is_row k ∙ after_above ReplyPlace (λ a b. refl) 0 k replies None (omega (arith, past))

  block_is_row : (a : ℕ) → image_behind (BlockPlace a) ≡ unit_after trailer_row (BlockPlace a) (unit_after block_row (BlockPlace a) None)
  block_is_row a = let place = BlockPlace a in in_order place
      ∙ past_update place (unit_after trailer_row place (unit_after block_row place (unit_after reply_row place (ring place)))) (λ n. refl)
      ∙ ap (λ (o : Option AnyUnit). unit_after trailer_row place (unit_after block_row place o))
      (past_replies place (ring place) (λ k. refl) ∙ past_ring place (λ t same. cc))

  pub shows_block : (i a : ℕ) (x : AnyUnit)
      → slice_get blocks i ≡ Some x → a ≡ i + 1 → i < length blocks → image_behind (BlockPlace a) ≡ Some x
  shows_block i a x at is inside = block_is_row a
      ∙ ap (unit_after trailer_row (BlockPlace a)) (after_there BlockPlace (λ b c. refl) 1 i a blocks x None at (omega (arith, is)))
      ∙ after_below BlockPlace (λ b c. refl) (length blocks + 1) a trailer (Some x) (omega (arith, is, inside))

  pub shows_trailer : (i a : ℕ) (x : AnyUnit)
      → slice_get trailer i ≡ Some x → a ≡ length blocks + 1 + i → image_behind (BlockPlace a) ≡ Some x
  shows_trailer i a x at is = block_is_row a
      ∙ after_there BlockPlace (λ b c. refl) (length blocks + 1) i a trailer x (unit_after block_row (BlockPlace a) None) at is
