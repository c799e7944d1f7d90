mod Administered
