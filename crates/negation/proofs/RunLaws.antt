-- The laws of runs: behind a word that is written, one after another, twice over the same tokens, one that stops, and one behind a word that
-- is read.
use Rattle.std.specs.Prelude.{◌≡◌, ℕ, ◌<◌, ◌≤◌, refl, List, [], ◌∷◌, ◌++◌, map, length, Ok, Err, IsErr}
use Rattle.std.specs.Borrow.{Bor}
use Rattle.std.proofs.Common.{sym, ap, ◌∙◌, arith, append_assoc, length-append, length-set}
use Rattle.std.proofs.lemmas.List.{map-append, length-map}
use Rattle.std.proofs.lemmas.Result.{MatchResult-from_err}
use Rattle.definitions.specs.Limits.{house}
use Rattle.text.specs.declared.table.Full.{Full}
use Rattle.text.specs.declared.table.Table.{Table}
use Rattle.text.specs.Tables.{words_of, pushed, pushed_words}
use Rattle.text.specs.Words.{Token}
use Rattle.negation.specs.Runs.{Rest, Added, End, Runs}

-- what is added to a table that was added to
adds : {d : ℕ → Token} {t t₁ t₂ : Table} {o₁ o₂ : List Token} → Added d t t₁ o₁ → Added d t₁ t₂ o₂ → Added d t t₂ (o₁ ++ o₂)
adds a b =
    record {
      used = simp length-append (omega (arith, a.used, b.used));
      words = λ l. let e = a.words l in let f = b.words e.0 in (f.0, f.1 ∙ rw (e.1, append_assoc));
    }

-- so the end of a second run is the end of both
further : {d : ℕ → Token} {t t₁ : Table} {o₁ : List Token} (r : Rest) (t₂ : Table) (rest o₂ : List Token) → Added d t t₁ o₁ → End d t₁ r t₂ rest o₂
    → End d t r t₂ rest (o₁ ++ o₂)
further (Err e) t₂ rest o₂ a x = simp length-append (omega (arith, a.used))
further (Ok q) t₂ rest o₂ a x = (x.0, adds a x.1)

-- a word that is put behind the words
pushes : (d : ℕ → Token) {t t₁ : Table} (w : ℕ) → (t.used < house.weight) × (t₁ ≡ pushed t w) × (words_of t₁ ≡ words_of t ++ (w ∷ [])) → Added d t t₁ (d w ∷ [])
pushes d {t} w p =
    rw p.1 (record { used = refl; words = λ l. (length-set t.nodes t.used w ∙ l, rw (pushed_words t w l p.0) (map-append d _ _)) })

module _ {d : ℕ → Token} {S : List ℕ} {t : Table} {t₁ : Table} where
  -- a run that is done, and a run after it
  pub seq : {q : Bor (List ℕ)} {r : Rest} {t₂ : Table} {i₁ i₂ o₁ o₂ : List Token} → Runs d S t (Ok q) t₁ i₁ o₁ → Runs d q.now t₁ r t₂ i₂ o₂
      → Runs d S t r t₂ (i₁ ++ i₂) (o₁ ++ o₂)
  seq {r = r} {i₂ = i₂} s u = record { ends = λ rest h. let e = s.ends (i₂ ++ rest) (rw append_assoc at h) in further r _ rest _ e.1 (u.ends rest e.0) }

  -- a run that is done, and a run over the same tokens again
  pub again : {q : Bor (List ℕ)} {r : Rest} {t₂ : Table} {i o₁ o₂ : List Token} → Runs d S t (Ok q) t₁ i o₁ → Runs d S t₁ r t₂ i o₂
      → Runs d S t r t₂ i (o₁ ++ o₂)
  again {r = r} s u = record { ends = λ rest h. further r _ rest _ (s.ends rest h).1 (u.ends rest h) }

  -- a run that found no room, whatever was to be read and written after it
  pub stop : {e : Full} {r : Rest} (i₂ o₂ : List Token) {i₁ o₁ : List Token} → IsErr r → Runs d S t (Err e) t₁ i₁ o₁
      → Runs d S t r t₁ (i₁ ++ i₂) (o₁ ++ o₂)
  stop {r = r} i₂ o₂ z s =
      record {
        ends = λ rest h. MatchResult-from_err r _ _ z (λ _. simp length-append (omega (arith, s.ends (i₂ ++ rest) (rw append_assoc at h))));
      }

  pub stop_write : {e : Full} {r : Rest} (o₂ : List Token) {i o₁ : List Token} → IsErr r → Runs d S t (Err e) t₁ i o₁
      → Runs d S t r t₁ i (o₁ ++ o₂)
  stop_write {r = r} o₂ z s =
      record { ends = λ rest h. MatchResult-from_err r _ _ z (λ _. simp length-append (omega (arith, s.ends rest h))) }

  -- a word is written, and a run goes on; or it finds no room
  pub written : {w : ℕ} {r : Rest} {t₂ : Table} {i o : List Token} → (t.used < house.weight) × (t₁ ≡ pushed t w) × (words_of t₁ ≡ words_of t ++ (w ∷ [])) → Runs d S t₁ r t₂ i o
      → Runs d S t r t₂ i (d w ∷ o)
  written {w} {r} p s = record { ends = λ rest h. further r _ rest _ (pushes d w p) (s.ends rest h) }

  pub no_room : {r : Rest} {k : Token} {i o : List Token} → house.weight ≤ t.used → IsErr r → Runs d S t r t₁ i (k ∷ o)
  no_room {r} h z = record { ends = λ rest x. MatchResult-from_err r _ _ z (λ _. omega arith) }

module _ {d : ℕ → Token} {S : List ℕ} {t : Table} {r : Rest} {t₁ : Table} {i o : List Token} where
  -- a word is read, and the run goes on behind it
  pub reads : {w : ℕ} {q : List ℕ} {k : Token} → S ≡ w ∷ q → (d w ≡ k → Runs d q t r t₁ i o) → Runs d S t r t₁ (k ∷ i) o
  reads {w} {q} {k} y s = record { ends = λ rest x. go rest (sym (ap (map d) y) ∙ x) }
    where
      go : (rest : List Token) → d w ∷ map d q ≡ k ∷ (i ++ rest) → End d t r t₁ rest o
      go rest x = let e : d w ≡ k = cc in (s e).ends rest (cc)

  -- more tokens than there are words
  pub nothing_left : length S ≡ 0 → 0 < length i → Runs d S t r t₁ i o
  nothing_left e l = record { ends = λ rest x. absurd (omega (arith, simp (length-map, length-append) at (ap length x))) }
