-- A boot update keeps a view sound, also one that changes the version.
use Rattle.std.proofs.Common.{◌≡◌, ℕ, ◌+◌, ◌-◌, List, [], ◌∷◌, length, take, drop, slice_index, sym, ◌∙◌, ap, arith}
use Rattle.df_theory.{specs.{Units.{Block, Content, Layout}, Tails.{AreGroups, Chain, last_checksum}, Shape.{Shape}, Trailer.{IsCount, IsTrailer, Links, piece_size, Says}, View.{View, head}, Holds.{Sound}, Next.{MayBoot, SameCheckpoint, booted}, Upgrades.{as_version, of_version}}, proofs.{Tails.{chain_ops}, Sounds.{is}}}

module _ (sh : Shape) (n : ℕ) (v : View) (d : Content) (sound : Sound sh v) (may : MayBoot (as_version n v) d) where
  same : SameCheckpoint (record v.checkpoint.content { version = n }) d
  same = may.is.same

  links_same : (room : ℕ) (c e : Content) → e.sequence ≡ c.sequence
      → e.trailer_size ≡ c.trailer_size → (cs : List (ℕ × Block)) (a k : ℕ) → Links room c cs a k → Links room e cs a k
  links_same room c e s t [] a k is = is
  links_same room c e s t (b ∷ bs) a k is = (is.0, is.1, is.2, is.3 ∙ sym s, is.4, is.5 ∙ ap (λ (n : ℕ). piece_size room n (length bs)) (sym t), is.6, links_same room c e s t bs b.1.before b.1.before_checksum is.7)

  boot_trailer : IsTrailer (of_version n sh) d v.checkpoint.chain v.checkpoint.parts
  boot_trailer = let t = sound.checkpoint.trailer in let room : ℕ = sh.layout.block_size - 256 in record {
    reference = record {
      address = omega (arith, t.reference.address, same.trailer.0);
      some = λ above. omega (arith, same.trailer.0, t.reference.some (omega (arith, same.op.0)));
      none = λ zero_is. let n = t.reference.none (omega (arith, same.trailer.0)) in
          (omega (arith, n.0, same.trailer.1), omega (arith, n.1, same.trailer.2));
      size = λ above. let n = t.reference.size (omega (arith, same.trailer.0)) in
          (omega (arith, n.0, same.trailer.2), omega (arith, n.1, same.trailer.2));
    };
    links = rw (sym same.trailer.0) at (rw (sym same.trailer.1) at (links_same room v.checkpoint.content
        d same.sequence same.trailer.2 v.checkpoint.chain v.checkpoint.content.trailer v.checkpoint.content.trailer_checksum t.links));
    count = rw (sym same.trailer.2) at t.count;
    inside = t.inside;
    size = t.size ∙ sym same.trailer.2;
    says = rw (sym same.op.0) at t.says;
    spare = t.spare;
  }

  pub raise_sound : Sound (of_version n sh) (booted v d)
  raise_sound = let tests = sound.checkpoint.tests in let top : head (booted v d) ≡ head v = omega (arith, same.op.0) in record {
    chain = rw (sym same.op.0) at (rw (sym same.op.1) at sound.chain);
    room = sound.room;
    grouped = rw (sym same.op.0) at sound.grouped;
    groups = λ p at. omega (arith, sound.groups p at, top);
    pin_ends = λ p at low. omega (arith, sound.groups p at, may.is.pin);
    checkpoint = record {
      tests = record {
        version = same.file.0;
        cluster = same.file.1 ∙ tests.cluster;
        layout = same.file.2 ∙ tests.layout;
        sequence = (omega (arith, same.sequence, tests.sequence.0), omega (arith, same.sequence, tests.sequence.1));
        boot = omega (arith, may.is.boot, may.unspent);
        op_checksum = λ zero_is. same.op.1 ∙ tests.op_checksum (omega (arith, same.op.0));
        head = (omega (arith, may.is.head, same.op.0), omega (arith, may.is.head, same.op.0, sound.room), omega (arith, may.is.head, sound.head_to));
        replies = (omega (arith, may.is.head, may.is.replies, sound.pipeline.0), omega (arith, may.is.head, may.is.replies, sound.pipeline.1));
        pin = (omega (arith, may.is.pin, same.op.0), omega (arith, may.is.pin, may.is.head));
        pin_checksum = λ level. let none : d.pin - d.op ≡ 0 = omega (arith, level) in sym may.is.records.checksum
            ∙ ap (λ (k : ℕ). last_checksum d.op_checksum (take k (drop (d.op - v.checkpoint.content.op) v.tail))) none;
        answered = omega (arith, may.is.answered, may.is.replies);
        spare = λ k low. may.is.records.spare k (omega (arith, low, ap (λ (l : Layout). l.clients) tests.layout));
        of = may.is.of;
        rest = λ i. ap (λ (l : List ℕ). slice_index l i) same.file.3 ∙ tests.rest i;
      };
      trailer = boot_trailer;
      tracks = record {
        below = λ k s at. omega (arith, same.op.0, sound.checkpoint.tracks.below k s at);
        apart = sound.checkpoint.tracks.apart;
        pending = λ o above to.
            sound.checkpoint.tracks.pending o (omega (arith, may.is.replies, sound.replies_from.0)) (omega (arith, same.op.0));
      };
    };
    head_from = omega (arith, may.is.head, top);
    head_to = omega (arith, sound.head_to, top);
    pipeline = (omega (arith, sound.pipeline.0, top), omega (arith, sound.pipeline.1, top));
    replies_from = (omega (arith, may.is.replies), sound.replies_from.1);
    answered = sound.answered;
    stores = sound.stores;
    records = record {
      pin_to = omega (arith, may.is.pin, top);
      checksum = let none : 0 ≡ d.op - v.checkpoint.content.op = omega (arith, same.op.0) in
          ap (λ (k : ℕ). last_checksum d.op_checksum (take (d.pin - d.op) (drop k v.tail))) none ∙ may.is.records.checksum;
      tail = λ p at above. let ops = chain_ops sh.layout.clients
          (v.checkpoint.content.op + 1) v.checkpoint.content.op_checksum 0 v.checkpoint.parts.sessions v.tail p sound.chain at in
          absurd (omega (arith, ops.1, may.is.pin));
      stored = λ k r at. record {
        old = may.is.records.stored k r at;
        new = λ above. let s = sound.answered k r at in absurd (omega (arith, may.is.answered, s.2, s.3.op));
      };
    };
  }

pub boot_sound : (sh : Shape) (v : View) (d : Content) → Sound sh v → MayBoot v d → Sound sh (booted v d)
boot_sound sh v d sound may = rw sound.checkpoint.tests.version at (raise_sound sh v.checkpoint.content.version v d sound may)
