-- The body fits the room, and is what stands after the place of the header.
use Rattle.std.proofs.Common.{◌≡◌, ◌≤◌, ◌+◌, ◌++◌, ℕ, List, length, take, drop, sym, ◌∙◌, ap, subst, arith}
use Rattle.{df_base.specs.Fields.{check_of}, df_layout.specs.declared.layout.Layout.{Layout}, df_format.specs.Whole.{greatest_size}}
use Rattle.df_buffers.{specs.Rooms.{Room}, proofs.{Finds.{is_no_ring}, Making.{made_fits, put_back}}}
use Rattle.df_buffers.proofs.raw.Raw.fill.Goals as goal

pub put_body-requires : goal.put_body-requires
put_body-requires g c = let fits = subst (λ (l : Layout).
    256 + length c.args.body.now ≤ greatest_size l g.K.RoomKind.ZONE) (sym (ap (λ (r : Room). r.layout) c.self.view_is)) c.requires in
    let room = made_fits g.K.RoomKind.ZONE c.self.inside.layout _ (is_no_ring _ _ g.met.K.UnitKind.stands) fits in
    omega (arith, room.1, ap (λ (l : List ℕ). length l) c.deref_mut.ensures.value, c.self.invariant)

-- what stands after the place of the header is the body
body_is : (n : ℕ) (new old body : List ℕ) → length new ≡ n
    → take (length body) (drop 256 new) ≡ body → take (length body) (drop 256 (take n (new ++ drop (length new) old))) ≡ body
body_is n new old body size there = ap (λ (l : List ℕ). take (length body) (drop 256 l)) (put_back n new old size) ∙ there

pub invariant_of-result : goal.invariant_of-result
invariant_of-result g c = record {
  fills = ap (λ (l : List ℕ). length l) (put_back c.self.inside.bytes.len c.put_body.new.bytes c.self.inside.bytes.items (c.put_body.ensures.size ∙ c.deref_mut.ensures.len)) ∙ c.put_body.ensures.size ∙ ap (λ (l : List ℕ). length l) c.deref_mut.ensures.value ∙ c.self.invariant;
  fits = subst (λ (l : Layout).
      256 + length c.args.body.now ≤ greatest_size l g.K.RoomKind.ZONE) (sym (ap (λ (r : Room). r.layout) c.self.view_is)) c.requires;
  summed = c.check-sum.ensures ∙ ap check_of (sym (body_is c.self.inside.bytes.len c.put_body.new.bytes
      c.self.inside.bytes.items c.args.body.now (c.put_body.ensures.size ∙ c.deref_mut.ensures.len) c.put_body.ensures.body));
}

pub returns : goal.returns
returns g c = let body = body_is c.self.inside.bytes.len c.put_body.new.bytes
    c.self.inside.bytes.items c.args.body.now (c.put_body.ensures.size ∙ c.deref_mut.ensures.len) c.put_body.ensures.body in
    λ i. record { layout = (ap (λ (r : Room). r.layout) c.self.view_is) i; body = body i }
