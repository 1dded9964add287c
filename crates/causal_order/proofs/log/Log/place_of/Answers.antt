use Rattle.std.proofs.Common.{◌≡◌, ◌-◌, true, sym, ap, subst, arith, refl, ℕ}
use Rattle.ivy_base.specs.declared.key.Key.{Key}
use Rattle.log_model.specs.Vector.{Stamp}
use Rattle.log_model.specs.Closed.{log_of}
use Rattle.causal_order.specs.Kept.{IsAt, known_of}
use Rattle.causal_order.proofs.Passes.{start}
use Rattle.causal_order.proofs.Places.{some_at, place_holds, places_count, seq_at, index_of, at_stands, base_is}
use Rattle.causal_order.proofs.log.Log.place_of.Goals as goal

made : (n m : ℕ) (k l : Key) → n ≡ m → k ≡ l → (let s : Stamp = record { seq = n; name = k } in s) ≡ (let t : Stamp = record { seq = m; name = l } in t)
made n m k l e f = cc

pub returns-then-i-len-clause-none : goal.returns-then-i-len-clause-none
returns-then-i-len-clause-none c = λ r stands same.
    let known = known_of c.args.base.now c.args.taken.now in
    let log = log_of c.args.self.now.owner known in
    let view = c.args.base.now.view.now in
    let count = places_count known c.args.self.now.places.items log c.requires.kept.places in
    let at = index_of view c.args.self.now.owner (start view c.args.base.now.front.now c.args.self.now.owner) log c.args.entry.now.seq c.args.self.now.base (c.args.entry.now.seq - c.args.self.now.base - 1)
    c.requires.chain c.requires.behind (base_is c.args.base.now.front.now known c.args.self.now c.requires.kept) refl r stands (ap (λ (s : Stamp). s.seq) same) in
    let within = at.within in
    omega (arith, within, count, c.if-i-len.true, c.len.ensures)

pub returns-then-has_name-clause-some : goal.returns-then-has_name-clause-some
returns-then-has_name-clause-some c =
    let known = known_of c.args.base.now c.args.taken.now in
    let log = log_of c.args.self.now.owner known in
    let view = c.args.base.now.view.now in
    let i = c.args.entry.now.seq - c.args.self.now.base - 1 in
    let count = places_count known c.args.self.now.places.items log c.requires.kept.places in
    let w = some_at log (c.args.entry.now.seq - c.args.self.now.base - 1) (omega (arith, count, c.if-i-len.false, c.len.ensures)) in
    let there = place_holds known c.args.self.now.places.items log (c.args.entry.now.seq - c.args.self.now.base - 1) c.index.result.now w.0 c.requires.kept.places w.1 in
    let number = seq_at view c.args.self.now.owner (start view c.args.base.now.front.now c.args.self.now.owner) log c.args.entry.now.seq c.args.self.now.base (c.args.entry.now.seq - c.args.self.now.base - 1)
    c.requires.chain c.requires.behind (base_is c.args.base.now.front.now known c.args.self.now c.requires.kept) refl w.0 w.1 in
    let named = (c.has_name.ensures w.0 w.1).0 c.if-has_name.true in
    (w.0, subst (λ (k : ℕ). IsAt known k w.0) (sym c.index.ensures) there, at_stands log (c.args.entry.now.seq - c.args.self.now.base - 1) w.0 w.1, made w.0.seq c.args.entry.now.seq w.0.name c.args.entry.now.name number named)

pub returns-else-has_name-clause-none : goal.returns-else-has_name-clause-none
returns-else-has_name-clause-none c = λ r stands same.
    let known = known_of c.args.base.now c.args.taken.now in
    let log = log_of c.args.self.now.owner known in
    let view = c.args.base.now.view.now in
    let at = index_of view c.args.self.now.owner (start view c.args.base.now.front.now c.args.self.now.owner) log c.args.entry.now.seq c.args.self.now.base (c.args.entry.now.seq - c.args.self.now.base - 1)
    c.requires.chain c.requires.behind (base_is c.args.base.now.front.now known c.args.self.now c.requires.kept) refl r stands (ap (λ (s : Stamp). s.seq) same) in
    let named : c.has_name.result ≡ true = (c.has_name.ensures r at).1 (ap (λ (s : Stamp). s.name) same) in
    cc
