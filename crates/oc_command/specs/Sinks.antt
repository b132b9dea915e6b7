-- What a sink did in a call.
use Rattle.std.specs.Prelude.{ℕ, ◌≡◌, ◌++◌, List, []}
use Rattle.oc_io.specs.Faults.{Rose}

-- what a sink did in a call
pub record Writes : Type 1 where
  -- which bytes it took
  pub took : List ℕ → Type 0
  -- those that it still holds back
  pub held : List ℕ
  -- its count of faults rose
  pub rose : Type 0
  -- its count of faults stayed
  pub calm : Type 0

-- what a sink did from one state to another
abbrev pub writes : {S : Type 0}
    → (S → List ℕ → S → Type 0) → (S → List ℕ) → (S → ℕ) → S → S → Writes
writes took held faults old new = record {
  took = λ text. took old text new;
  held = held new;
  rose = Rose (faults old) (faults new);
  calm = faults new ≡ faults old;
}

-- the sink took nothing, and no fault was counted
pub record TookNothing (sink : Writes) : Type 0 where
  pub untaken : sink.took []
  pub calm : sink.calm

-- the sink took all of a text with no fault, and holds nothing back
pub record TookAll (sink : Writes) (text : List ℕ) : Type 0 where
  pub taken : sink.took text
  pub written : sink.held ≡ []
  pub calm : sink.calm

-- the sink's faults rose, and it took a front part of the text
pub record TookFront (sink : Writes) (text : List ℕ) : Type 0 where
  pub rose : sink.rose
  pub front : List ℕ
  pub back : List ℕ
  pub split : text ≡ front ++ back
  pub taken : sink.took front
