-- What an open finds of a file at rest: its copies are equal, no slot of its rings has a prepare, and each session's reply is named.
use Rattle.std.{proofs.Common.{◌≡◌, inl, ℕ, ◌+◌, ◌-◌, ◌<◌, ◌≤◌, List, [], ◌∷◌, length, take, Option, Some, None, refl, sym, ◌∙◌, ap, arith}, specs.Prelude.{slice_get, slice_index}}
use Rattle.df_theory.specs.{Units.{Block, BlockPlace, BlockUnit, Content, CopyPlace, CopyUnit, Header, HeaderPlace, HeaderUnit, IsReserved, Message, Place, PreparePlace, PrepareUnit, ReplyPlace, ReplyUnit, Session, Units}, Cases.{Takes}, Copies.{Agree, IsChosen}, Found.{IsFound, IsStored}, Groups.{AreMore}, Holds.{IsNamed, IsWhole}, Rests.{IsCopy}, Sessions.{Answers}, Shape.{Shape, slots}, Tails.{last_checksum}, Trailer.{InChain}, View.{Checkpoint, IsSoundCheckpoint, View}}

-- the state of a file at rest: its checkpoint, with each session's reply
abbrev pub view_at_rest : Checkpoint → (ℕ → Option Message) → View
view_at_rest b stored = record { checkpoint = b; tail = []; replies = b.content.op; stored = stored }

-- the superblock names all that there is: its op is the head and the number of replies
pub record NamesAll (c : Content) : Type 0 where
  pub head : c.head ≡ c.op
  pub replies : c.replies ≡ c.op
  pub pin : c.pin ≡ c.op
  pub pin_checksum : c.pin_checksum ≡ c.op_checksum
  pub answered : c.answered ≡ c.op + 1

-- a reply was made before the superblock, and in an earlier boot
pub record IsEarlier (c : Content) (r : Message) : Type 0 where
  pub checkpoint : r.header.checkpoint ≤ c.sequence
  pub boot : r.header.boot < c.boot

-- what a file at rest shows: two copies that agree, and none of another content; reserved headers alone, no prepare, and for each session
-- the reply that its checksum names
pub record ShowsRest (sh : Shape) (image : Units) (b : Checkpoint) (stored : ℕ → Option Message) : Type 0 where
  pub agreed : Agree image b.content
  pub only : (n : ℕ) (d : Content) → n < 4 → image (CopyPlace n) ≡ Some (CopyUnit d) → d ≡ b.content
  pub headers : (s : ℕ) (h : Header) → image (HeaderPlace s) ≡ Some (HeaderUnit h) → IsReserved h
  pub prepares : (s : ℕ) → image (PreparePlace s) ≡ None
  pub chain : (a : ℕ) (x : Block) → InChain a x b.chain → image (BlockPlace a) ≡ Some (BlockUnit x)
  pub replies : (k : ℕ) (r : Message) → image (ReplyPlace k) ≡ Some (ReplyUnit r) → IsEarlier b.content r
  pub shown : (k : ℕ) (s : Session) → slice_get b.parts.sessions k ≡ Some s → (r : Message) × (stored k ≡ Some r)
      × (image (ReplyPlace k) ≡ Some (ReplyUnit r)) × Answers s r × (slice_index b.content.reply_checksums k ≡ r.header.checksum)
  pub no_more : (k : ℕ) (r : Message) → stored k ≡ Some r → (s : Session) × (slice_get b.parts.sessions k ≡ Some s)

module _ (sh : Shape) (image : Units) (b : Checkpoint)
    (stored : ℕ → Option Message) (sound : IsSoundCheckpoint sh b) (all : NamesAll b.content) (shows : ShowsRest sh image b stored) where
  abbrev c : Content
  c = b.content

  abbrev v : View
  v = view_at_rest b stored

  chosen : IsChosen image c
  chosen = record {
    agreed = shows.agreed;
    greatest = λ d agree. let same : d ≡ c = shows.only agree.second d agree.inside agree.at_second in
        omega (arith, ap (λ (e : Content). e.sequence) same, ap (λ (e : Content). e.boot) same);
    lowest = λ d agree level n inside is. (n, omega arith, is ∙ ap (λ (e : Content). Some (CopyUnit e)) (shows.only n d inside is));
  }

  no_prepare : (s : ℕ) (p : Message) → image (PreparePlace s) ≡ Some (PrepareUnit p) → ⊥
  no_prepare s p is = let both : None ≡ Some (PrepareUnit p) = sym (shows.prepares s) ∙ is in cc

  nothing_taken : (p : Message) → Takes (slots sh) image c p → ⊥
  nothing_taken p takes = no_prepare _ p takes.shown

  longest : (ps : List Message) → AreMore sh (Takes (slots sh) image c) b [] ps → ⊥
  longest [] more = omega (arith, more.some)
  longest (p ∷ ps) more = nothing_taken p (more.behind.shown p (inl refl))

  level : c.op + length {A = Message} [] ≡ c.op
  level = omega arith

  none_cut : c.pin - c.op ≡ 0
  none_cut = omega (arith, all.pin)

  below : (k : ℕ) (s : Session) → slice_get b.parts.sessions k ≡ Some s → s.op ≤ c.op
  below k s at = sound.tracks.below k s at

  named : (k : ℕ) (s : Session) (r : Message)
      → s.op ≤ c.op → Answers s r → slice_index c.reply_checksums k ≡ r.header.checksum → IsNamed c k r
  named k s r low answers sum = record { old = λ below. sum; new = λ above. absurd (omega (arith, above, low, answers.op, all.answered)) }

  is_stored : IsStored image v
  is_stored = record {
    shown = λ k s at low. let there = shows.shown k s at in (there.0, there.1, there.2, there.3, named k s there.0 low there.3 there.4);
    no_more = λ k r at. let there = shows.no_more k r at in (there.0, there.1, below k there.0 there.1);
  }

  pub rest_found : IsFound sh image v
  rest_found = record {
    chosen = chosen;
    checkpoint = sound;
    chain_shown = shows.chain;
    not_behind = record {
      header = λ s h is. let none = shows.headers s h is in (omega (arith, none.checkpoint), omega (arith, none.op), omega (arith, none.boot));
      prepare = λ s p is. absurd (no_prepare s p is);
      reply = λ k r is. let earlier = shows.replies k r is in (earlier.checkpoint, omega (arith, earlier.boot));
    };
    tail = record {
      chain = tt;
      takes = λ p at. absurd at;
      room = omega arith;
      grouped = tt;
      groups = λ p at. absurd at;
      pin_ends = λ p at. absurd at;
      reaches = omega (arith, all.pin);
      pinned = ap (λ (k : ℕ). last_checksum c.op_checksum (take {A = Message} k [])) none_cut ∙ sym all.pin_checksum;
      longest = longest;
    };
    not_lost = record {
      header = λ s h is same. let none = shows.headers s h is in omega (arith, none.op);
      prepare = λ s p is. absurd (no_prepare s p is);
      superblock = omega (arith, all.head);
      reply = λ k r is same. let earlier = shows.replies k r is in absurd (omega (arith, earlier.boot, same));
    };
    replies = record {
      superblock = omega (arith, all.replies);
      mark = omega arith;
      reply = λ k r is same. let earlier = shows.replies k r is in absurd (omega (arith, earlier.boot, same));
      reached = inl all.replies;
    };
    stored = is_stored;
  }

  -- all four copies, and a header in each slot
  pub rest_whole : ((n : ℕ) → n < 4 → image (CopyPlace n) ≡ Some (CopyUnit c))
      → ((s : ℕ) → s < slots sh → (h : Header) × (image (HeaderPlace s) ≡ Some (HeaderUnit h))) → IsWhole sh image v
  rest_whole copies slots_show = record {
    copies = copies;
    headers = λ s inside. let there = slots_show s inside in (there.0, there.1, λ p at. absurd at);
  }

-- it is shown where all but the copies is as it was
module _ (sh : Shape) (shown image : Units) (b : Checkpoint) (stored : ℕ → Option Message) (shows : ShowsRest sh shown b stored)
    (same : (place : Place) → (IsCopy place → ⊥) → image place ≡ shown place) (agreed : Agree image b.content)
    (only : (n : ℕ) (d : Content) → n < 4 → image (CopyPlace n) ≡ Some (CopyUnit d) → d ≡ b.content) where
  pub moved_rest : ShowsRest sh image b stored
  moved_rest = record {
    agreed = agreed;
    only = only;
    headers = λ s h is. shows.headers s h (sym (same (HeaderPlace s) (λ no. no)) ∙ is);
    prepares = λ s. same (PreparePlace s) (λ no. no) ∙ shows.prepares s;
    chain = λ a x at. same (BlockPlace a) (λ no. no) ∙ shows.chain a x at;
    replies = λ k r is. shows.replies k r (sym (same (ReplyPlace k) (λ no. no)) ∙ is);
    shown = λ k s at. let there = shows.shown k s at in (there.0, there.1, same (ReplyPlace k) (λ no. no) ∙ there.2, there.3, there.4);
    no_more = shows.no_more;
  }
