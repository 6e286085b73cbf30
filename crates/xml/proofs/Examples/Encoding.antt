-- Worked examples of what a declaration may say of the encoding: first the texts that a rule derives, then those that it does not.
-- `UTF8`, `US-ASCII` and a name that only begins or ends as `UTF-8` does are other encodings; a shape that [23] has not is none.
use mathlib.Core.Path.{◌≡◌, refl}
use mathlib.Core.Bool.{true}
use mathlib.Core.List.{[], ◌∷◌}
use Rattle.xml.specs.Encoding.{Utf8Name, Utf8Decl}
use Rattle.xml.specs.Judged.{judged, texts}

pub [81]-Utf8Name :
    judged Utf8Name
    (texts ("UTF-8" ∷ "utf-8" ∷ "Utf-8" ∷ "uTF-8" ∷ "utF-8" ∷ []))
    (texts
    ("" ∷ "UTF8" ∷ "UTF" ∷ "UTF-" ∷ "UTF-8x" ∷ "UTF-88" ∷ "xUTF-8" ∷ "UTF-16" ∷ "UTF_8" ∷ "UTF-8 " ∷ "US-ASCII" ∷ "ISO-8859-1"
    ∷ "VTF-8" ∷ "ＵTF-8" ∷ []))
    ≡ true
unfolding judged
[81]-Utf8Name = refl

pub [23]-Utf8Decl :
    judged Utf8Decl
    (texts
    ("<?xml version='1.0'?>" ∷ "<?xml version=\"1.0\" encoding=\"UTF-8\" standalone=\"yes\"?>" ∷ "<?xml version='1.0' standalone=\"no\"?>"
    ∷ "<?xml version='1.1' encoding='utf-8' ?>" ∷ "<?xml version='1.0' encoding='uTf-8'?>" ∷ []))
    (texts
    ("<?xml version='1.0' encoding='ISO-8859-1'?>" ∷ "<?xml version=\"1.0\" encoding=\"UTF-16\" standalone=\"yes\"?>"
    ∷ "<?xml version='1.0' encoding='UTF8'?>" ∷ "<?xml version='1.0' encoding='UTF-8x'?>" ∷ "<?xml version='1.0' encoding=''?>"
    ∷ "<?xml version='1.0' encoding='UTF-8\"?>" ∷ "<?xml encoding='UTF-8'?>" ∷ []))
    ≡ true
unfolding judged
[23]-Utf8Decl = refl
