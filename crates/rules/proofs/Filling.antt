-- One part more in a sink: what it holds, whether there was room or not.
use Rattle.std.proofs.Common.{◌≡◌, ℕ, suc, ◌-◌, ◌<◌, ◌≤◌, ◌↔◌, true, false, Ok, Err, Result, ltb, List, [], ◌∷◌, ◌++◌, length, take, set, replicate, sym, refl, ap, ◌∙◌, subst, append_assoc, arith}
use Rattle.std.proofs.lemmas.List.{take_all, take-append-le, set_at, length_push, length-take}
use Rattle.std.proofs.lemmas.Bool.{lt-ltb, le-ltb}
use Rattle.std.specs.Result.{IsOk, OnOk, OnErr, is_err}
use Rattle.list.specs.declared.lists.Full.{Full}
use Rattle.list.specs.Held.{items, room}
use Rattle.parts.specs.declared.Part.{Part}
use Rattle.parts.specs.declared.Part.TheVariants.{Blank}
use Rattle.rules.specs.Buffer.{padded}
use Rattle.rules.specs.Held.{Holds, Put, room_of}
use Rattle.rules.specs.declared.sink.Sink.{Sink}

module _ (n : ℕ) (ps : List Part) (x : Part) where
  -- the blank behind the parts becomes the part
  one_blank : length ps < n → replicate (n - length ps) Blank ≡ Blank ∷ replicate (n - length (ps ++ (x ∷ []))) Blank
  one_blank h =
      let e = length_push ps x in
      let d : n - length ps ≡ suc (n - length (ps ++ (x ∷ []))) = omega arith in
      ap (λ k. replicate k Blank) d

  room_items : length ps < n → take n ps ++ (x ∷ []) ≡ take n (ps ++ (x ∷ []))
  room_items h =
      let e = length_push ps x in
      ap (λ l. l ++ (x ∷ [])) (take_all n ps (omega arith)) ∙ sym (take_all n (ps ++ (x ∷ [])) (omega arith))

  room_slots : length ps < n → set (padded n ps) (length (take n ps)) x ≡ padded n (ps ++ (x ∷ []))
  room_slots h =
      let rest = replicate (n - length (ps ++ (x ∷ []))) Blank in
      ap (λ l. set (take n ps ++ l) (length (take n ps)) x) (one_blank h) ∙ set_at (take n ps) Blank rest x (length (take n ps)) refl
      ∙ sym (append_assoc (take n ps) (x ∷ []) rest) ∙ ap (λ l. l ++ rest) (room_items h)

  full_items : n ≤ length ps → take n ps ≡ take n (ps ++ (x ∷ []))
  full_items h = sym (take-append-le n ps (x ∷ []) h)

  full_slots : n ≤ length ps → padded n ps ≡ padded n (ps ++ (x ∷ []))
  full_slots h =
      let e = length_push ps x in
      let d : n - length ps ≡ n - length (ps ++ (x ∷ [])) = omega arith in
      ap (λ l. l ++ replicate (n - length ps) Blank) (full_items h) ∙ ap (λ k. take n (ps ++ (x ∷ [])) ++ replicate k Blank) d

  shorter : length (take n ps) < n → length ps < n
  shorter h = let e = length-take n ps in omega arith

  longer : n ≤ length (take n ps) → n ≤ length ps
  longer h = let e = length-take n ps in omega arith

module _ (s t : Sink) (x : Part) (text : t.text ≡ s.text) (space : room t.list ≡ room s.list) where
  put_room : length (items s.list) < room s.list → items t.list ≡ items s.list ++ (x ∷ [])
      → t.list.slots.now ≡ set s.list.slots.now (length (items s.list)) x → is_err t.last ≡ false → Put (x ∷ []) s t
  put_room r i l h = record {
    text = text;
    same = space;
    holds = λ qs k.
        let n = room_of s in
        let e : length (take n qs) < n = subst (λ z. length z < n) k.items r in
        let g = shorter n qs x e in
        let p = length_push qs x in
        record {
          items = i ∙ ap (λ z. z ++ (x ∷ [])) k.items ∙ room_items n qs x g ∙ ap (λ m. take m (qs ++ (x ∷ []))) (sym space);
          slots = l ∙ ap (λ z. set s.list.slots.now (length z) x) k.items ∙ ap (λ z. set z (length (take n qs)) x) k.slots
              ∙ room_slots n qs x g ∙ ap (λ m. padded m (qs ++ (x ∷ []))) (sym space);
          short = h ∙ sym (le-ltb n (length (qs ++ (x ∷ []))) (omega arith)) ∙ ap (λ m. ltb m (length (qs ++ (x ∷ [])))) (sym space);
        };
  }

  put_full : room s.list ≤ length (items s.list) → items t.list ≡ items s.list
      → t.list.slots.now ≡ s.list.slots.now → is_err t.last ≡ true → Put (x ∷ []) s t
  put_full r i l h = record {
    text = text;
    same = space;
    holds = λ qs k.
        let n = room_of s in
        let e : n ≤ length (take n qs) = subst (λ z. n ≤ length z) k.items r in
        let g = longer n qs x e in
        let p = length_push qs x in
        record {
          items = i ∙ k.items ∙ full_items n qs x g ∙ ap (λ m. take m (qs ++ (x ∷ []))) (sym space);
          slots = l ∙ k.slots ∙ full_slots n qs x g ∙ ap (λ m. padded m (qs ++ (x ∷ []))) (sym space);
          short = h ∙ sym (lt-ltb n (length (qs ++ (x ∷ []))) (omega arith)) ∙ ap (λ m. ltb m (length (qs ++ (x ∷ [])))) (sym space);
        };
  }

  -- what a push answers
  pub put_told : (r : Result (Unit {0}) Full) → t.last ≡ r → IsOk r ↔ (length (items s.list) < room s.list) → OnOk r (items t.list ≡ items s.list ++ (x ∷ []))
      → OnOk r (t.list.slots.now ≡ set s.list.slots.now (length (items s.list)) x) → OnErr r (t.list ≡ s.list) → Put (x ∷ []) s t
  put_told (Ok u) e v i l k = put_room (v.0 refl) i l (ap is_err e)
  put_told (Err f) e v i l k =
      let no : length (items s.list) < room s.list → ⊥ = λ h. (let z : false ≡ true = v.1 h in cc) in
      put_full (omega (arith, no)) (ap items k) (ap (λ z. z.slots.now) k) (ap is_err e)

-- an empty sink whose slots are blank
pub empty : (s : Sink) → items s.list ≡ [] → s.list.slots.now ≡ replicate (room_of s) Blank → is_err s.last ≡ false → Holds [] s
empty s i l h = record {
  items = i ∙ sym (take_all (room_of s) [] (omega arith));
  slots = l ∙ sym (ap (λ z. z ++ replicate (room_of s - 0) Blank) (take_all (room_of s) [] (omega arith)) ∙ ap (λ k. replicate k Blank) (let e : room_of s - 0 ≡ room_of s = omega arith in e));
  short = h ∙ sym (le-ltb (room_of s) 0 (omega arith));
}

-- parts in two goes
pub put_twice : (ps qs : List Part) (s t u : Sink) → Put ps s t → Put qs t u → Put (ps ++ qs) s u
put_twice ps qs s t u a b = record {
  text = b.text ∙ a.text;
  same = b.same ∙ a.same;
  holds = λ os k. let e = append_assoc os ps qs in let h = b.holds (os ++ ps) (a.holds os k) in rw (← e) h;
}

-- the same parts and the same sink under other names
pub put_as : (ps qs : List Part) (s t u : Sink) → ps ≡ qs → u ≡ t → Put ps s t → Put qs s u
put_as ps qs s t u e f h =
    let P : List Part → Type 0 = λ os. Put os s u in
    let Q : Sink → Type 0 = λ v. Put ps s v in
    subst P e (subst Q (sym f) h)
